use Rattle.std.proofs.Common.{ℕ, ◌+◌, ◌-◌, ◌≤◌, arith, length}
use Rattle.parser.specs.Letters.{Letter, Glues, GoesOn}
use Rattle.parser.specs.LetterLaws.{letter-long, spells-room, goes-more, goes-letter}
use Rattle.pairs.specs.WithinLaws.{goes_scanned}
use Rattle.pairs.specs.Told.{goes-letters}
use Rattle.pairs.proofs.within.skip_upto.Goals as goal

pub returns-then-chars-most : goal.returns-then-chars-most
returns-then-chars-most c =
    goes_scanned _ _ _ _ _ _ ((let so_far_here : GoesOn c.args.text.now c.args.from c.skip_plain-plain.result ((let N_here : ℕ = c.loop-chars.chars + (c.skip_plain-plain.result - c.loop-chars.end) in N_here)) c.loop-chars.glues = goes-letters _ _ _ _ _ _ c.loop-chars.invariant.0 c.skip_plain-plain.ensures.0 in so_far_here)) ((let small_here : (c.loop-chars.end ≤ c.skip_plain-plain.result) × (c.skip_plain-plain.result ≤ length c.args.text.now) × ((let N_here : ℕ = c.loop-chars.chars + (c.skip_plain-plain.result - c.loop-chars.end) in N_here) ≤ c.args.most) × ((let N_here : ℕ = c.loop-chars.chars + (c.skip_plain-plain.result - c.loop-chars.end) in N_here) ≤ c.skip_plain-plain.result) × (length c.args.text.now ≤ 65535) = let s = (let so_far_here : GoesOn c.args.text.now c.args.from c.skip_plain-plain.result ((let N_here : ℕ = c.loop-chars.chars + (c.skip_plain-plain.result - c.loop-chars.end) in N_here)) c.loop-chars.glues = goes-letters _ _ _ _ _ _ c.loop-chars.invariant.0 c.skip_plain-plain.ensures.0 in so_far_here) in
    omega (arith, s.forward, s.inside, c.skip_plain-plain.ensures.0.forward, c.skip_plain-plain.ensures.1, c.limit_at-limit.ensures, c.loop-chars.invariant.1, c.requires.0) in small_here)).2 _ c.scanned_at.ensures

pub overflow_add-end : goal.overflow_add-end
overflow_add-end c =
    omega (
      arith,
      spells-room _ _ _ 0 ((let found_here : Letter c.args.text.now c.skip_plain-plain.result c.in-Some.letter = letter-long _ _ _ (c.in-Some.ensures) in found_here)),
      (let small_here : (c.loop-chars.end ≤ c.skip_plain-plain.result) × (c.skip_plain-plain.result ≤ length c.args.text.now) × ((let N_here : ℕ = c.loop-chars.chars + (c.skip_plain-plain.result - c.loop-chars.end) in N_here) ≤ c.args.most) × ((let N_here : ℕ = c.loop-chars.chars + (c.skip_plain-plain.result - c.loop-chars.end) in N_here) ≤ c.skip_plain-plain.result) × (length c.args.text.now ≤ 65535) = let s = (let so_far_here : GoesOn c.args.text.now c.args.from c.skip_plain-plain.result ((let N_here : ℕ = c.loop-chars.chars + (c.skip_plain-plain.result - c.loop-chars.end) in N_here)) c.loop-chars.glues = goes-letters _ _ _ _ _ _ c.loop-chars.invariant.0 c.skip_plain-plain.ensures.0 in so_far_here) in
          omega (arith, s.forward, s.inside, c.skip_plain-plain.ensures.0.forward, c.skip_plain-plain.ensures.1, c.limit_at-limit.ensures, c.loop-chars.invariant.1, c.requires.0) in small_here),
    )

pub loop-chars-preserved-in-Some : goal.loop-chars-preserved-in-Some
loop-chars-preserved-in-Some c = (
  goes-letter _ _ _ _ _ ((let so_far_here : GoesOn c.args.text.now c.args.from c.skip_plain-plain.result ((let N_here : ℕ = c.loop-chars.chars + (c.skip_plain-plain.result - c.loop-chars.end) in N_here)) c.loop-chars.glues = goes-letters _ _ _ _ _ _ c.loop-chars.invariant.0 c.skip_plain-plain.ensures.0 in so_far_here)) _ ((let found_here : Letter c.args.text.now c.skip_plain-plain.result c.in-Some.letter = letter-long _ _ _ (c.in-Some.ensures) in found_here)),
  omega (
    arith,
    (let small_here : (c.loop-chars.end ≤ c.skip_plain-plain.result) × (c.skip_plain-plain.result ≤ length c.args.text.now) × ((let N_here : ℕ = c.loop-chars.chars + (c.skip_plain-plain.result - c.loop-chars.end) in N_here) ≤ c.args.most) × ((let N_here : ℕ = c.loop-chars.chars + (c.skip_plain-plain.result - c.loop-chars.end) in N_here) ≤ c.skip_plain-plain.result) × (length c.args.text.now ≤ 65535) = let s = (let so_far_here : GoesOn c.args.text.now c.args.from c.skip_plain-plain.result ((let N_here : ℕ = c.loop-chars.chars + (c.skip_plain-plain.result - c.loop-chars.end) in N_here)) c.loop-chars.glues = goes-letters _ _ _ _ _ _ c.loop-chars.invariant.0 c.skip_plain-plain.ensures.0 in so_far_here) in
        omega (arith, s.forward, s.inside, c.skip_plain-plain.ensures.0.forward, c.skip_plain-plain.ensures.1, c.limit_at-limit.ensures, c.loop-chars.invariant.1, c.requires.0) in small_here),
    c.if-chars-most.false,
  ),
)

pub returns-in_default-glue_len : goal.returns-in_default-glue_len
returns-in_default-glue_len c =
    goes_scanned _ _ _ _ _ _ ((let so_far_here : GoesOn c.args.text.now c.args.from c.skip_plain-plain.result ((let N_here : ℕ = c.loop-chars.chars + (c.skip_plain-plain.result - c.loop-chars.end) in N_here)) c.loop-chars.glues = goes-letters _ _ _ _ _ _ c.loop-chars.invariant.0 c.skip_plain-plain.ensures.0 in so_far_here)) ((let small_here : (c.loop-chars.end ≤ c.skip_plain-plain.result) × (c.skip_plain-plain.result ≤ length c.args.text.now) × ((let N_here : ℕ = c.loop-chars.chars + (c.skip_plain-plain.result - c.loop-chars.end) in N_here) ≤ c.args.most) × ((let N_here : ℕ = c.loop-chars.chars + (c.skip_plain-plain.result - c.loop-chars.end) in N_here) ≤ c.skip_plain-plain.result) × (length c.args.text.now ≤ 65535) = let s = (let so_far_here : GoesOn c.args.text.now c.args.from c.skip_plain-plain.result ((let N_here : ℕ = c.loop-chars.chars + (c.skip_plain-plain.result - c.loop-chars.end) in N_here)) c.loop-chars.glues = goes-letters _ _ _ _ _ _ c.loop-chars.invariant.0 c.skip_plain-plain.ensures.0 in so_far_here) in
    omega (arith, s.forward, s.inside, c.skip_plain-plain.ensures.0.forward, c.skip_plain-plain.ensures.1, c.limit_at-limit.ensures, c.loop-chars.invariant.1, c.requires.0) in small_here)).2 _ c.scanned_at-in_default-glue_len.ensures

pub overflow_add-end-in-loop-chars : goal.overflow_add-end-in-loop-chars
overflow_add-end-in-loop-chars c =
    omega (
      arith,
      spells-room _ _ _ 1 ((let glued_here : Glues c.args.text.now c.skip_plain-plain.result c.in-Some-glue_len.glue = c.in-Some-glue_len.ensures in glued_here)),
      (let small_here : (c.loop-chars.end ≤ c.skip_plain-plain.result) × (c.skip_plain-plain.result ≤ length c.args.text.now) × ((let N_here : ℕ = c.loop-chars.chars + (c.skip_plain-plain.result - c.loop-chars.end) in N_here) ≤ c.args.most) × ((let N_here : ℕ = c.loop-chars.chars + (c.skip_plain-plain.result - c.loop-chars.end) in N_here) ≤ c.skip_plain-plain.result) × (length c.args.text.now ≤ 65535) = let s = (let so_far_here : GoesOn c.args.text.now c.args.from c.skip_plain-plain.result ((let N_here : ℕ = c.loop-chars.chars + (c.skip_plain-plain.result - c.loop-chars.end) in N_here)) c.loop-chars.glues = goes-letters _ _ _ _ _ _ c.loop-chars.invariant.0 c.skip_plain-plain.ensures.0 in so_far_here) in
          omega (arith, s.forward, s.inside, c.skip_plain-plain.ensures.0.forward, c.skip_plain-plain.ensures.1, c.limit_at-limit.ensures, c.loop-chars.invariant.1, c.requires.0) in small_here),
    )

pub loop-chars-preserved : goal.loop-chars-preserved
loop-chars-preserved c = (
  goes-more _ _ _ _ _ ((let so_far_here : GoesOn c.args.text.now c.args.from c.skip_plain-plain.result ((let N_here : ℕ = c.loop-chars.chars + (c.skip_plain-plain.result - c.loop-chars.end) in N_here)) c.loop-chars.glues = goes-letters _ _ _ _ _ _ c.loop-chars.invariant.0 c.skip_plain-plain.ensures.0 in so_far_here)) _ 1 ((let glued_here : Glues c.args.text.now c.skip_plain-plain.result c.in-Some-glue_len.glue = c.in-Some-glue_len.ensures in glued_here)),
  omega (
    arith,
    (let small_here : (c.loop-chars.end ≤ c.skip_plain-plain.result) × (c.skip_plain-plain.result ≤ length c.args.text.now) × ((let N_here : ℕ = c.loop-chars.chars + (c.skip_plain-plain.result - c.loop-chars.end) in N_here) ≤ c.args.most) × ((let N_here : ℕ = c.loop-chars.chars + (c.skip_plain-plain.result - c.loop-chars.end) in N_here) ≤ c.skip_plain-plain.result) × (length c.args.text.now ≤ 65535) = let s = (let so_far_here : GoesOn c.args.text.now c.args.from c.skip_plain-plain.result ((let N_here : ℕ = c.loop-chars.chars + (c.skip_plain-plain.result - c.loop-chars.end) in N_here)) c.loop-chars.glues = goes-letters _ _ _ _ _ _ c.loop-chars.invariant.0 c.skip_plain-plain.ensures.0 in so_far_here) in
        omega (arith, s.forward, s.inside, c.skip_plain-plain.ensures.0.forward, c.skip_plain-plain.ensures.1, c.limit_at-limit.ensures, c.loop-chars.invariant.1, c.requires.0) in small_here),
    c.if-chars-most.false,
  ),
)
