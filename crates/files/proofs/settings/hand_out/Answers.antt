-- `files::settings::hand_out` meets its contract (refusal 1, refusal 2, refusal 8, refusal 12).
use Rattle.std.proofs.Common.{ℕ, ap, ◌∙◌, List, ◌++◌, drop}
use Rattle.meaning.specs.LayoutFile.{of_settings}
use Rattle.meaning.specs.ReadFile.{unretired}
use Rattle.meaning.specs.Table.{written}
use Rattle.files.proofs.settings.hand_out.Goals as goal

pub returns : goal.returns
unfolding written of_settings
returns c =
    ap (λ (l : List ℕ). l ++ drop 13 c.args.settings.now)
    (c.copy_from_slice.ensures.after ∙ c.numbers_of-numbers.ensures ∙ ap of_settings (c.unretire.ensures ∙ ap unretired c.file_settings.ensures))
