-- `files::lines::check_lines_read` meets its contract (refusal 3, refusal 5).
use Rattle.std.proofs.Common.{ℕ, sym, ap, ◌∙◌, drop}
use Rattle.meaning.specs.Checks.{check_length}
use Rattle.meaning.specs.LayoutFile.{lines_at}
use Rattle.meaning.specs.ReadFile.{file_text_length, lines_in, check_lines_read}
use Rattle.files.specs.Reading.{text-refused, text-good}
use Rattle.laws.specs.Asked.{asked}
use Rattle.files.proofs.lines.check_lines_read.Goals as goal

pub returns-in_err-check_length : goal.returns-in_err-check_length
returns-in_err-check_length c =
    asked _ c.from_residual.ensures.1 ∙ text-refused (file_text_length c.args.file.now) (lines_in c.args.lines (drop lines_at c.args.file.now)) _ (sym (c.check_length.ensures ∙ ap check_length c.file_length-bytes.ensures) ∙ c.in_err-check_length.was)

pub returns : goal.returns
returns c =
    c.check_rows.ensures ∙ ap (λ (n : ℕ). check_lines_read n (lines_in c.args.lines (drop lines_at c.args.file.now))) c.file_length-bytes.ensures ∙ text-good (file_text_length c.args.file.now) (lines_in c.args.lines (drop lines_at c.args.file.now)) (sym (c.check_length.ensures ∙ ap check_length c.file_length-bytes.ensures) ∙ c.in_ok-check_length.was)
