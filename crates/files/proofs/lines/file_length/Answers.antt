-- `files::lines::file_length` meets its contract (refusal 3, refusal 5).
use Rattle.meaning.specs.ReadFile.{file_text_length}
use Rattle.files.proofs.lines.file_length.Goals as goal

pub returns : goal.returns
unfolding file_text_length
returns c =
    c.read_number.ensures
