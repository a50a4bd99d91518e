-- An edit of a text whose table was laid with other settings: only those that a line depends on have to be the same.
-- Assumes nothing.
use Rattle.std.specs.Prelude.{ℕ, ◌*◌, ◌≤◌, ◌≡◌, List, length, Ok}
use Rattle.std.proofs.Common.{sym, ◌∙◌}
use Rattle.meaning.specs.Checks.{check_settings}
use Rattle.meaning.specs.Layout.{layout}
use Rattle.meaning.specs.declared.settings.Settings.{Settings}
use Rattle.meaning.specs.declared.edit.Edit.{Edit}
use Rattle.promises.specs.SameLines.{SameLines, same_layout}
use Rattle.promises.specs.Demand3Calls.{EditOf}

-- What is lent for the edit after a layout with the settings s serves for laying again with the settings s'.
pub edit-by : {s s' : Settings} {ed : Edit} {old new table : List ℕ} {lines : ℕ} {part : List ℕ} → SameLines s s' → check_settings s' ≡ Ok tt
    → EditOf s ed old new table lines part → EditOf s' ed old new table lines part
edit-by {s' = s'} {old = old} {new = new} e good k =
    record {
      pre = k.pre;
      mid = k.mid;
      ins = k.ins;
      post = k.post;
      old-is = k.old-is;
      new_is = k.new_is;
      replaces = k.replaces;
      old-text = k.old-text;
      new-text = k.new-text;
      old-size = k.old-size;
      new-size = k.new-size;
      settings = good;
      holds = k.holds;
      held = k.held ∙ same_layout e old;
      room = rw (← same_layout e new) k.room;
      lent = rw (← same_layout e old) k.lent;
    }
