-- Over a block the figures at the end stay the same: those from what was pending with the block and all that follows it are those from what is
-- pending now with what follows.
-- Assumes nothing.
use Rattle.std.specs.Prelude.{ℕ, ◌≤◌, ◌<◌, ◌≡◌, refl, true, false, List, ◌++◌, length, take, drop}
use Rattle.std.proofs.Common.{sym, ap, subst, ◌∙◌, append_assoc, arith, take-append-drop, take-take}
use Rattle.basis.specs.Choice.{by_test}
use Rattle.basis.specs.Order.{by_lt}
use Rattle.meaning.specs.Checks.{text_limit}
use Rattle.meaning.specs.Month.{most_clues}
use Rattle.meaning.specs.declared.settings.Settings.{Settings}
use Rattle.meaning.specs.declared.figures.Figures.{Figures}
use Rattle.month_figures.specs.Sums.{sums_of}
use Rattle.clues.specs.Counting.{counting, Passed, sums-go}
use Rattle.clues.specs.declared.stream.Ended.{Ended}
use Rattle.month.specs.Pending.{too_long, held_in, long_clue, pending, block_of, ending, NoFeed, long-long, long_feed, long_same, full-same, pending-short, pending-long, block_short, block_long, ending_of_lem}
use Rattle.month.specs.Blocks.{Kept, LongGone, LongStill}
use Rattle.month.specs.declared.block.Step.{Step}

-- From the state of a step the figures at the end are these, by what follows. What is pending has no line feed, unless there are as many clues
-- as a month may have.
pub record Goes (s : Settings) (ws : List ℕ) (u : List Figures) (b : List ℕ) (r : Step) (figures : (more : List ℕ) → List Figures) : Type 0 where
  pub goes : (more : List ℕ) → ending s ws u b r more ≡ figures more
  pub feedless : r.clues < most_clues → NoFeed (pending r b)

-- The clues in the buffer b from a place up to another were still to be counted behind n others, with all that follows.
abbrev pub WentFrom : Settings → (ws b : List ℕ) (u : List Figures) → (from end n : ℕ) → (u' : List Figures) (b' : List ℕ) → Step → Type 0
WentFrom s ws b u from end n u' b' r = Goes s ws u' b' r (λ (more : List ℕ). counting s ws n u (drop from (take end b) ++ more))

-- A block stood in the buffer b, up to a place, behind what was pending.
abbrev pub WentOn : Settings → (ws b : List ℕ) (u : List Figures) → (end : ℕ) → Step → (u' : List Figures) (b' : List ℕ) → Step → Type 0
WentOn s ws b u end r u' b' r' = Goes s ws u' b' r' (λ (more : List ℕ). ending s ws u b r (block_of r b end ++ more))

-- Where the array has figures for all widths, and maybe more, these go as all of it goes.
module _ (s : Settings) (ws b : List ℕ) (u : List Figures) (end : ℕ) (u' : List Figures) (b' : List ℕ) (h : length ws ≤ length u) (g : length ws ≤ length u') where
  pub from-sums : (from n : ℕ) (r : Step) → WentFrom s ws b u from end n u' b' r → WentFrom s ws b (sums_of ws u) from end n (sums_of ws u') b' r
  unfolding ending
  from-sums from n r w =
      record {
        goes = λ more. sums-go s ws n r.clues u u' (drop from (take end b) ++ more) (pending r b' ++ more) h g (w.goes more);
        feedless = w.feedless;
      }

  pub went-sums : (r r' : Step) → WentOn s ws b u end r u' b' r' → WentOn s ws b (sums_of ws u) end r (sums_of ws u') b' r'
  unfolding ending
  went-sums r r' w =
      record {
        goes = λ more. sums-go s ws r.clues r'.clues u u' (pending r b ++ (block_of r b end ++ more)) (pending r' b' ++ more) h g (w.goes more);
        feedless = w.feedless;
      }

-- ---- what is left of a block is pending

module _ (s : Settings) (ws b : List ℕ) (from end n : ℕ) (u : List Figures) (at m : ℕ) (v : List Figures) (p : Passed s ws (take end b) from n u at m v) (r : Step) (b' : List ℕ) (k : Kept b at end m r b') where
  abbrev left : List ℕ
  left = drop at (take end b)

  left-short : too_long r ≡ false → WentFrom s ws b u from end n v b' r
  left-short e =
      let is : pending r b' ≡ left = pending-short r b' e ∙ k.held e in
      record {
        goes = λ more. ending_of_lem s ws v b' r m left more k.counted is ∙ p.passing.goes more;
        feedless = λ h. subst NoFeed (sym is) (p.done (omega (arith, k.counted)));
      }

  left-long : text_limit < length b → too_long r ≡ true → WentFrom s ws b u from end n v b' r
  left-long room e =
      let is = pending-long r b' e in
      let many : text_limit < length left = omega (arith, k.full e) in
      let any : (more : List ℕ) → counting s ws m v (long_clue ++ more) ≡ counting s ws m v (left ++ more) =
      λ more.
      by_lt m most_clues
      (λ h. long_same s ws m v long_clue left more long-long long_feed many (p.done h))
      (λ h. full-same s ws m v (long_clue ++ more) h ∙ sym (full-same s ws m v (left ++ more) h))
      in
      record {
        goes = λ more. ending_of_lem s ws v b' r m long_clue more k.counted is ∙ any more ∙ p.passing.goes more;
        feedless = λ h. subst NoFeed (sym is) long_feed;
      }

  pub went-from : text_limit < length b → WentFrom s ws b u from end n v b' r
  went-from room = by_test (too_long r) (left-long room) left-short

  pub sums-went-from : text_limit < length b → WentFrom s ws b (sums_of ws u) from end n (sums_of ws v) b' r
  sums-went-from room = from-sums s ws b u end v b' (omega (arith, p.passing.counts.room, p.passing.same)) p.passing.counts.room from n r (went-from room)

-- ---- a block behind what is pending

module _ (s : Settings) (ws b : List ℕ) (u : List Figures) (end : ℕ) (r : Step) where
  -- A clue that is not too long goes on in the block.
  pub went-short : too_long r ≡ false → held_in r ≤ end → (u' : List Figures) (b' : List ℕ) (r' : Step) → WentFrom s ws b u 0 end r.clues u' b' r' → WentOn s ws b u end r u' b' r'
  went-short e h u' b' r' w =
      let x = take end b in
      let both : take (held_in r) b ++ block_of r b end ≡ x =
      (let front = sym (take-take (held_in r) end b h) in let behind = block_short r b e end in λ i. front i ++ behind i) ∙ take-append-drop (held_in r) x
      in
      record {
        goes =
            λ more.
            w.goes more ∙ ap (λ (l : List ℕ). counting s ws r.clues u (l ++ more)) (sym both)
            ∙ ap (counting s ws r.clues u) (append_assoc (take (held_in r) b) (block_of r b end) more)
            ∙ sym (ending_of_lem s ws u b r r.clues (take (held_in r) b) (block_of r b end ++ more) refl (pending-short r b e));
        feedless = w.feedless;
      }

  module _ (e : too_long r ≡ true) (u₁ : List Figures) where
    behind-long : (more : List ℕ) → counting s ws r.clues u (long_clue ++ (take end b ++ more)) ≡ ending s ws u b r (block_of r b end ++ more)
    behind-long more =
        ap (λ (x : List ℕ). counting s ws r.clues u (long_clue ++ (x ++ more))) (sym (block_long r b e end))
        ∙ sym (ending_of_lem s ws u b r r.clues long_clue (block_of r b end ++ more) refl (pending-long r b e))

    -- One that is too long does not end in it.
    pub went-still : LongStill s ws b u end r.clues u₁ → (r' : Step) → r'.clues ≡ r.clues → too_long r' ≡ true → WentOn s ws b u end r u₁ b r'
    went-still l r' n-is e' =
        let is = pending-long r' b e' in
        record {
          goes = λ more. ending_of_lem s ws u₁ b r' r.clues long_clue more n-is is ∙ l.still more ∙ behind-long more;
          feedless = λ h. subst NoFeed (sym is) long_feed;
        }

    -- Or it does.
    pub went-ended : (d : Ended) → LongGone s ws b u end r.clues d u₁ → (u' : List Figures) (b' : List ℕ) (r' : Step) → WentFrom s ws b u₁ d.at end d.clues u' b' r'
        → WentOn s ws b u end r u' b' r'
    went-ended d l u' b' r' w = record { goes = λ more. w.goes more ∙ l.ended more ∙ behind-long more; feedless = w.feedless }
