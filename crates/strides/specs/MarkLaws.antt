-- A pass over a soft hyphen that does not show and the word behind it, and over zero width spaces: where it then stands (rule 8).
-- Assumes nothing.
use Prim.Native.Nat.{ℕ, ◌+◌, ◌-◌, ◌*◌, ◌≤◌, ◌<◌, max}
use Rattle.std.proofs.Common.{arith, ◌∙◌}
use Rattle.std.specs.Prelude.{◌≡◌, true, false, ◌||◌, not, List, ◌∷◌, None, Some}
use Rattle.std.proofs.Math.Path.{refl, sym, ap}
use borrow.Author.Tests.{le-leb}
use Rattle.std.proofs.Math.ListN.{length}
use Rattle.basis.specs.Choice.{pick, by_test}
use Rattle.meaning.specs.Tokens.{Tok, softHyphen, word, tokens, size_of, need_of}
use Rattle.meaning.specs.Cursor.{room_of, fits_in, advance}
use Rattle.meaning.specs.SpaceConfig.{spaces_width}
use Rattle.meaning.specs.Lookahead.{Ahead, added, next_fits, next_width}
use Rattle.meaning.specs.LineIter.{skips, draws_space, when, moved_on, used_up}
use Rattle.meaning.specs.Line.{held_tokens}
use Rattle.meaning.specs.declared.tokens.TokenKind.TheVariants.{Whitespace, Break}
use Rattle.meaning.specs.declared.settings.Settings.{Settings}
use Rattle.meaning.specs.declared.cursor.LineCursor.{LineCursor}
use Rattle.meaning.specs.declared.cursor.Spaces.{Spaces}
use Rattle.meaning.specs.declared.cursor.Place.{Place}
use Rattle.meaning.specs.declared.line.Measure.{Measure}
use Rattle.parser.specs.Lexing.{chars_from, lexed_at}
use Rattle.parser.specs.Scanning.{alone_at, word_of}
use Rattle.parser.specs.Marks.{mark_kind, Mark}
use Rattle.parser.specs.MarkLaws.{mark-room, mark-lexed}
use Rattle.parser.specs.declared.lexeme.Lexeme.{Lexeme}
use Rattle.parser.specs.declared.scan.Scanned.{Scanned}
use Rattle.steps.specs.Ahead.{white_width}
use Rattle.steps.specs.Lexed.{lexes}
use Rattle.steps.specs.Stepping.{ran_from, ahead_of}
use Rattle.steps.specs.Unrolled.{farther, nothing_resumed}
use Rattle.steps.specs.Ready.{step_from}
use Rattle.steps.specs.Running.{PassReady, none-fits, pass-goes}
use Rattle.steps.specs.Runs.{whole_answer}
use Rattle.steps.specs.RunLaws.{space-whole, shown-none}
use Rattle.steps.specs.Stopping.{word_measure, word_place}
use Rattle.steps.specs.FitsLaws.{look_from, none_used, look_white}
use Rattle.steps.specs.WordLaws.{word_at, WordAt, word-at}
use Rattle.steps.specs.BreakLaws.{tok_break, break_hides}
use Rattle.steps.specs.declared.foreseen.Look.{Look}
use Rattle.steps.specs.declared.step.Ended.{Ended}
use Rattle.steps.specs.declared.step.Stepped.TheVariants.{Go}
use Rattle.strides.specs.Strides.{Onward}
use Rattle.strides.specs.OnwardLaws.{looks-over, read-pending, read-ready, goes-onward, onward-on}
use Rattle.strides.specs.StrideLaws.{word-onward}
use Rattle.strides.specs.Marks.{Joining, Zeros}

-- ---- the tokens

module _ (t : List ℕ) (at : ℕ) where
  pub hyphen-read : Mark t at 2 → lexed_at at (tokens (chars_from t at)) ≡ Some (alone_at Break (at + 2))
  unfolding mark_kind pick
  hyphen-read m = sym (mark-lexed t at 2 m)

  pub zero-read : Mark t at 3 → lexed_at at (tokens (chars_from t at)) ≡ Some (alone_at Whitespace (at + 3))
  unfolding mark_kind pick
  zero-read m = sym (mark-lexed t at 3 m)

  -- The tokens from there on.
  pub hyphen-first : Mark t at 2 → tokens (chars_from t at) ≡ softHyphen ∷ tokens (chars_from t (at + 2))
  unfolding held_tokens alone_at
  hyphen-first m =
      let y = read-pending t at _ (hyphen-read m) in
      y.first ∙ ap (λ (u : Tok). u ∷ tokens (chars_from t (at + 2))) (tok_break t at _ refl)

-- A pass can run from a later offset too.
later : {s : Settings} {p : Place} {t : List ℕ} {at : ℕ} {m : Measure} → PassReady s p t at nothing_resumed m → (to : ℕ) → at ≤ to → to ≤ length t
    → PassReady s p t to nothing_resumed m
later {t = t} r to f g =
    record {
      settings = r.settings;
      place = r.place;
      short = r.short;
      inside = g;
      rest = none-fits t to nothing_resumed refl;
      small = omega (arith, r.small);
    }

-- ---- a soft hyphen and a word

-- What a look to the next soft hyphen sees.
pub look_join : (g at : ℕ) (cs : List ℕ) (e : ℕ) (ts : List Tok)
    → next_width g None at (word cs e ∷ softHyphen ∷ ts)
    ≡ record { width = Some (record { 0 = length cs * g + g }); reach = max (at + need_of (word cs e)) (at + size_of (word cs e) + need_of softHyphen) }
unfolding next_width added
look_join g at cs e ts = refl

module _ {s : Settings} {p : Place} {t : List ℕ} {at : ℕ} {m : Measure} (r : PassReady s p t at nothing_resumed m) {w : Scanned} {q : Place}
    (j : Joining s p t at w q)
  where
    abbrev Y : Lexeme
    Y = word_of w

    word-is : WordAt t (at + 2) Y
    unfolding word_of
    word-is = word-at t (at + 2) Y (read-pending t (at + 2) Y j.word).stands refl

    pub joined-fits : fits_in p.cursor (w.chars.0 * s.glyph.0) ≡ true
    unfolding fits_in
    joined-fits = le-leb (w.chars.0 * s.glyph.0) (room_of p.cursor) (omega (arith, j.fits))

    -- What is looked at behind the hyphen.
    abbrev Cs : List ℕ
    Cs = word_at t (at + 2) Y

    abbrev E : ℕ
    E = Y.reach.0 - Y.end.0

    joined-tokens : tokens (chars_from t (at + 2)) ≡ word Cs E ∷ softHyphen ∷ tokens (chars_from t (w.end.0 + 2))
    unfolding held_tokens word_of
    joined-tokens =
        (read-pending t (at + 2) Y j.word).first ∙ (λ i. word-is.tok i ∷ hyphen-first t w.end.0 j.behind i)

    abbrev Seen : Ahead
    Seen =
        record {
          width = Some (record { 0 = length Cs * s.glyph.0 + s.glyph.0 });
          reach = max (at + 2 + need_of (word Cs E)) (at + 2 + size_of (word Cs E) + need_of softHyphen);
        }

    seen : ahead_of Seen ≡ ahead_of (next_width s.glyph.0 None (at + 2) (tokens (chars_from t (at + 2))))
    seen = ap ahead_of (sym (ap (next_width s.glyph.0 None (at + 2)) joined-tokens ∙ look_join s.glyph.0 (at + 2) Cs E _))

    hidden : p.empty || not (fits_in p.cursor (length Cs * s.glyph.0 + s.glyph.0)) ≡ false
    unfolding fits_in word_of
    hidden =
        let n : w.chars.0 * s.glyph.0 ≡ length Cs * s.glyph.0 = ap (λ (k : ℕ). k * s.glyph.0) word-is.chars in
        rw (j.empty, le-leb (length Cs * s.glyph.0 + s.glyph.0) (room_of p.cursor) (omega (arith, j.fits)))

    pub hyphen-goes : Go p m (record { 0 = Seen.reach }) ≡ step_from s p t at (alone_at Break (at + 2)) m
    unfolding alone_at
    hyphen-goes =
        break_hides s p t at (alone_at Break (at + 2)) m (read-pending t at _ (hyphen-read t at j.hyphen)).stands refl (ahead_of Seen) seen _ refl hidden

    -- What was looked at, the pass from the word on looks at too.
    looked : max (at + 2) Seen.reach ≤ (ran_from s p t (at + 2) 0 0 m).reach.0
    unfolding alone_at word_of
    looked =
        let n = word_measure s.glyph.0 p.spaces m w.chars.0 w.weight.0 in
        let pw = read-pending t (at + 2) Y j.word in
        let pz = read-pending t w.end.0 _ (hyphen-read t w.end.0 j.behind) in
        let ready = later r (at + 2) (omega arith) (mark-room t at 2 j.hyphen).2 in
        let on = word-onward ready Y j.word refl joined-fits q n j.place refl in
        let same : (ran_from s q t w.end.0 0 0 n).reach.0 ≡ (ran_from s p t (at + 2) 0 0 m).reach.0 = ap (λ (d : Ended). d.reach.0) on.same in
        let need : Y.reach.0 ≡ at + 2 + need_of (word Cs E) = pw.reach ∙ ap (λ (u : Tok). at + 2 + need_of u) word-is.tok in
        let size : Y.end.0 ≡ at + 2 + size_of (word Cs E) = pw.end ∙ ap (λ (u : Tok). at + 2 + size_of u) word-is.tok in
        let end : w.end.0 + 2 ≡ w.end.0 + need_of softHyphen = pz.reach ∙ ap (λ (u : Tok). w.end.0 + need_of u) (tok_break t w.end.0 _ refl) in
        omega (arith, looks-over s p t (at + 2) m Y pw, looks-over s q t w.end.0 n _ pz, pw.stands.longer)

    -- The hyphen does nothing.
    pub hyphen-onward : Onward s p t at nothing_resumed m p (at + 2) m
    unfolding alone_at
    hyphen-onward = goes-onward r (alone_at Break (at + 2)) (hyphen-read t at j.hyphen) p m Seen.reach hyphen-goes looked

    pub joined-onward : (n : Measure) → n ≡ word_measure s.glyph.0 p.spaces m w.chars.0 w.weight.0
        → Onward s p t at nothing_resumed m q w.end.0 n
    unfolding word_of
    joined-onward n e = onward-on hyphen-onward (word-onward hyphen-onward.ready Y j.word refl joined-fits q n j.place e)

    pub joined_numbers : (at < w.end.0) × (w.end.0 ≤ 65535) × (w.weight.0 ≤ w.chars.0) × (w.chars.0 ≤ 65535)
    unfolding word_of
    joined_numbers =
        let h = (read-pending t (at + 2) Y j.word).stands in
        omega (arith, r.short, h.within, h.longer, word-is.few, word-is.fewer)

    pub joined-full : q.empty ≡ false
    unfolding word_place
    joined-full = ap (λ (z : Place). z.empty) j.place

-- ---- zero width spaces

advance-none : (c : LineCursor) (n : ℕ) → n ≡ 0 → advance c n ≡ c
unfolding advance
advance-none c n e = let f : c.position.0 + n ≡ c.position.0 = omega arith in rw f

no_width : (sp : Spaces) → spaces_width sp 0 ≡ 0
unfolding spaces_width
no_width sp = omega arith

module _ (s : Settings) (p : Place) (t : List ℕ) (m : Measure) (e : p.empty ≡ false) where
  kept : skips s p ≡ false
  unfolding skips
  kept = rw e

  thin : fits_in p.cursor (spaces_width p.spaces 0) ≡ true
  unfolding fits_in
  thin = le-leb (spaces_width p.spaces 0) (room_of p.cursor) (omega (arith, no_width p.spaces))

  stays : moved_on (used_up p 0) (spaces_width p.spaces 0) ≡ p
  stays =
      λ i. record { cursor = advance-none p.cursor (spaces_width p.spaces 0) (no_width p.spaces) i; spaces = none_used p.spaces i; empty = p.empty }

  abbrev sees : (at : ℕ) → ℕ
  sees at = (next_fits s.glyph.0 p.cursor p.spaces at (tokens (chars_from t at))).reach

  draws : (at : ℕ) → (draws_space s p at (tokens (chars_from t at))).reach ≡ sees at
  unfolding draws_space pick
  draws at = rw e

  whole-zero : (q : Place) (width : ℕ) (x : Lexeme) → q ≡ p → width ≡ 0 → x.count.0 ≡ 0 → whole_answer s q t x width m ≡ Go p m (record { 0 = sees x.end.0 })
  unfolding whole_answer when pick
  whole-zero q width x a b d =
      let none = shown-none m 0 refl in
      rw (a, b, d)
      (by_test (draws_space s p x.end.0 (tokens (chars_from t x.end.0))).fits
      (λ f. rw f (λ i. Go p (none i) (record { 0 = draws x.end.0 i })))
      (λ f. rw f (λ i. Go p (none i) (record { 0 = draws x.end.0 i }))))

  pub zero-goes : (at : ℕ) → PassReady s p t at nothing_resumed m → Mark t at 3
      → Go p m (record { 0 = sees (at + 3) }) ≡ step_from s p t at (alone_at Whitespace (at + 3)) m
  unfolding alone_at
  zero-goes at r z =
      let x = alone_at Whitespace (at + 3) in
      sym (whole-zero _ (spaces_width p.spaces 0) x stays (no_width p.spaces) refl)
      ∙ space-whole (read-ready r x (zero-read t at z)) refl (spaces_width p.spaces 0) refl kept thin (used_up p 0) _ refl refl

  module _ {at : ℕ} (r : PassReady s p t at nothing_resumed m) where
    -- Of two the first does nothing.
    pub zeros_onward : Zeros t at → Onward s p t at nothing_resumed m p (at + 3) m
    unfolding alone_at farther look_from white_width
    zeros_onward z =
        let x = alone_at Whitespace (at + 3) in
        let y = alone_at Whitespace (at + 3 + 3) in
        let read = zero-read t (at + 3) z.1 in
        let ready = later r (at + 3) (omega arith) (mark-room t at 3 z.0).2 in
        let far = max 0 (max (at + 3 + 3) (sees (at + 3 + 3))) in
        let on = pass-goes s p t (at + 3) 0 0 m 0 y (read-pending t (at + 3) y read) p m _ (sym (zero-goes (at + 3) ready z.1)) far refl nothing_resumed refl in
        let low : max far (ran_from s p t (at + 3 + 3) 0 0 m).reach.0 ≡ max 0 (ran_from s p t (at + 3) 0 0 m).reach.0 = ap (λ (d : Ended). d.reach.0) on in
        let c = p.cursor in
        let sp = p.spaces in
        let look = look_white t (at + 3) y (lexes t (at + 3) y read) s.glyph.0 c sp 0 (at + 3 + 3) (omega arith) tt (spaces_width sp 0) refl thin c sp
        (sym (advance-none c (spaces_width sp 0) (no_width sp))) (sym (none_used sp)) in
        let saw : max (at + 3 + 3) (sees (at + 3 + 3)) ≡ max 0 (sees (at + 3)) = ap (λ (l : Look). l.reach.0) look in
        goes-onward r x (zero-read t at z.0) p m (sees (at + 3)) (zero-goes at r z.0) (omega arith)
