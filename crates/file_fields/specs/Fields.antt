-- The fields of a file as the running check goes over them (refusal 9, refusal 11).
-- Assumes nothing.
use Rattle.std.specs.Prelude.{ℕ, suc, ◌+◌, ◌-◌, ◌*◌, ◌≤◌, ◌<◌, ◌≡◌, true, false, List, length, drop, Err, Ok}
use Rattle.meaning.specs.Refusals.{Checked}
use Rattle.std.proofs.Math.Path.{sym, ap}
use Rattle.std.proofs.Common.{◌∙◌, arith, length-drop, drop_of_length-le, drop-cons, drop-drop}
use Rattle.std.proofs.Math.Nat.{sub-zero}
use Rattle.basis.specs.Choice.{pick, pick_true, pick-false}
use Rattle.meaning.specs.LayoutFile.{header_bytes, number_bytes, settings_tag, length_tag, line_tag, end_tag, settings_size, line_size, line_bytes, length_at, lines_at}
use Rattle.meaning.specs.ReadFile.{old_line_size, is_field, check_end, check_line_fields, check_fields}
use Rattle.meaning.specs.declared.refusals.Refusal.TheVariants.{BadField, OldEntry}
use Rattle.file_fields.specs.FileFields.{found}

-- ---- the end

-- The bytes at an offset are the end, and nothing follows.
unfoldable pub end_checked : (at : ℕ) → List ℕ → Checked
end_checked at f = pick (is_field end_tag 0 f) (check_end (at + header_bytes) (drop header_bytes f)) (Err (BadField at))

module _ (at : ℕ) (f : List ℕ) where
  pub no_end : is_field end_tag 0 f ≡ false → Err (BadField at) ≡ end_checked at f
  unfolding end_checked
  no_end e = sym (pick-false _ _ _ e)

  module _ (e : is_field end_tag 0 f ≡ true) where
    pub end_followed : header_bytes < length f → Err (BadField (at + header_bytes)) ≡ end_checked at f
    unfolding end_checked check_end
    end_followed h = sym (pick_true _ _ _ e ∙ ap (check_end (at + header_bytes)) (drop-cons f header_bytes 0 h))

    pub end-last : length f ≤ header_bytes → Ok tt ≡ end_checked at f
    unfolding end_checked check_end
    end-last h = sym (pick_true _ _ _ e ∙ ap (check_end (at + header_bytes)) (drop_of_length-le f h))

-- ---- the lines

-- What the loop over lines keeps: so many lines were passed, and the check goes on behind them.
pub record Passed (f : List ℕ) (at : ℕ) : Type 0 where
  pub count : ℕ
  pub stands : at ≡ lines_at + line_bytes * count
  pub inside : at ≤ length f
  pub same : check_line_fields (length f - count) at (drop at f) ≡ check_line_fields (length f) lines_at (drop lines_at f)

pub none_passed : (f : List ℕ) → lines_at ≤ length f → Passed f lines_at
none_passed f h =
    record {
      count = 0;
      stands = omega arith;
      inside = h;
      same = ap (λ (n : ℕ). check_line_fields n lines_at (drop lines_at f)) (sub-zero (length f));
    }

module _ (f : List ℕ) (at : ℕ) (p : Passed f at) where
  abbrev less : ℕ
  less = length f - (p.count + 1)

  abbrev here : List ℕ
  here = drop at f

  -- There is as much fuel as is needed.
  fuelled : check_line_fields (suc less) at here ≡ check_line_fields (length f) lines_at (drop lines_at f)
  fuelled =
      let e : suc less ≡ length f - p.count = omega (arith, p.stands, p.inside) in
      ap (λ (n : ℕ). check_line_fields n at here) e ∙ p.same

  pub line-there : is_field line_tag line_size here ≡ true → at + line_bytes ≤ length f
  line-there e = omega (arith, (found line_tag line_size here e).whole, length-drop at f, p.inside)

  pub one-passed : is_field line_tag line_size here ≡ true → Passed f (at + line_bytes)
  unfolding check_line_fields
  one-passed e =
      record {
        count = p.count + 1;
        stands = omega (arith, p.stands);
        inside = line-there e;
        same =
            ap (check_line_fields less (at + line_bytes)) (sym (drop-drop line_bytes at f)) ∙ sym (pick_true _ _ _ e) ∙ fuelled;
      }

  module _ (n : is_field line_tag line_size here ≡ false) where
    pub old-line : is_field line_tag old_line_size here ≡ true → Err (OldEntry at) ≡ check_line_fields (length f) lines_at (drop lines_at f)
    unfolding check_line_fields
    old-line o = sym (pick-false _ _ _ n ∙ pick_true _ _ _ o) ∙ fuelled

    pub lines-over : is_field line_tag old_line_size here ≡ false → end_checked at here ≡ check_line_fields (length f) lines_at (drop lines_at f)
    unfolding check_line_fields end_checked
    lines-over o = sym (pick-false _ _ _ n ∙ pick-false _ _ _ o) ∙ fuelled

-- ---- all fields

module _ (f : List ℕ) where
  pub bad_settings : is_field settings_tag settings_size f ≡ false → Err (BadField 0) ≡ check_fields f
  unfolding check_fields
  bad_settings e = sym (pick-false _ _ _ e)

  module _ (e : is_field settings_tag settings_size f ≡ true) where
    pub settings-inside : length_at ≤ length f
    settings-inside = (found settings_tag settings_size f e).whole

    pub bad_length : is_field length_tag number_bytes (drop length_at f) ≡ false → Err (BadField length_at) ≡ check_fields f
    unfolding check_fields
    bad_length o = sym (pick_true _ _ _ e ∙ pick-false _ _ _ o)

    module _ (o : is_field length_tag number_bytes (drop length_at f) ≡ true) where
      pub length-inside : lines_at ≤ length f
      length-inside = omega (arith, (found length_tag number_bytes (drop length_at f) o).whole, length-drop length_at f, settings-inside)

      pub lines_decide : check_line_fields (length f) lines_at (drop lines_at f) ≡ check_fields f
      unfolding check_fields
      lines_decide = sym (pick_true _ _ _ e ∙ pick_true _ _ _ o)
