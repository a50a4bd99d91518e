-- `files::writer::write_settings` meets its contract (refusal 1, refusal 2, refusal 5, refusal 8).
use Rattle.files.specs.Writing.{settings-put}
use Rattle.files.proofs.writer.write_settings.Goals as goal

pub returns : goal.returns
returns c =
    settings-put c.args.file.now _ _ _ c.args.s c.write_header.ensures c.write_numbers.ensures c.numbers_of-numbers.ensures
