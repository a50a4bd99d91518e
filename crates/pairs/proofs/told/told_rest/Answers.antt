use Rattle.std.proofs.Common.{◌≤◌, arith, length}
use Rattle.parser.specs.Letters.{Letter, Glues}
use Rattle.parser.specs.LetterLaws.{letter-long, spells-room}
use Rattle.pairs.specs.Told.{Goes, told-letters, told-letter, told_more}
use Rattle.pairs.proofs.told.told_rest.Goals as goal

pub overflow_add-at : goal.overflow_add-at
overflow_add-at c =
    omega (
      arith,
      spells-room _ _ _ 0 ((let lettered_here : Letter c.args.text.now c.skip_plain-end.result c.in-Some.letter = letter-long _ _ _ (c.in-Some.ensures) in lettered_here)),
      (let small_here : (c.loop-from.at ≤ c.skip_plain-end.result) × (c.loop-from.conts ≤ c.skip_plain-end.result) × (c.loop-from.glues ≤ c.skip_plain-end.result) × (c.skip_plain-end.result ≤ length c.args.text.now) × (length c.args.text.now ≤ 65535) = let s = (let so_far_here : Goes c.args.text.now c.args.from c.skip_plain-end.result c.loop-from.conts c.loop-from.glues = told-letters _ _ _ _ _ c.loop-from.invariant _ c.skip_plain-end.ensures.0 in so_far_here) in
          omega (arith, s.few, s.on.inside, s.on.fewer, s.on.forward, c.skip_plain-end.ensures.0.forward, c.requires.0) in small_here),
    )

pub overflow_cast-conts : goal.overflow_cast-conts
overflow_cast-conts c =
    omega (arith, spells-room _ _ _ 0 ((let lettered_here : Letter c.args.text.now c.skip_plain-end.result c.in-Some.letter = letter-long _ _ _ (c.in-Some.ensures) in lettered_here)))

pub overflow_sub-conts : goal.overflow_sub-conts
overflow_sub-conts c =
    omega (arith, spells-room _ _ _ 0 ((let lettered_here : Letter c.args.text.now c.skip_plain-end.result c.in-Some.letter = letter-long _ _ _ (c.in-Some.ensures) in lettered_here)))

pub overflow_add-conts : goal.overflow_add-conts
overflow_add-conts c =
    omega (
      arith,
      spells-room _ _ _ 0 ((let lettered_here : Letter c.args.text.now c.skip_plain-end.result c.in-Some.letter = letter-long _ _ _ (c.in-Some.ensures) in lettered_here)),
      (let small_here : (c.loop-from.at ≤ c.skip_plain-end.result) × (c.loop-from.conts ≤ c.skip_plain-end.result) × (c.loop-from.glues ≤ c.skip_plain-end.result) × (c.skip_plain-end.result ≤ length c.args.text.now) × (length c.args.text.now ≤ 65535) = let s = (let so_far_here : Goes c.args.text.now c.args.from c.skip_plain-end.result c.loop-from.conts c.loop-from.glues = told-letters _ _ _ _ _ c.loop-from.invariant _ c.skip_plain-end.ensures.0 in so_far_here) in
          omega (arith, s.few, s.on.inside, s.on.fewer, s.on.forward, c.skip_plain-end.ensures.0.forward, c.requires.0) in small_here),
    )

pub loop-from-smaller-in-Some : goal.loop-from-smaller-in-Some
loop-from-smaller-in-Some c =
    omega (
      arith,
      spells-room _ _ _ 0 ((let lettered_here : Letter c.args.text.now c.skip_plain-end.result c.in-Some.letter = letter-long _ _ _ (c.in-Some.ensures) in lettered_here)),
      (let small_here : (c.loop-from.at ≤ c.skip_plain-end.result) × (c.loop-from.conts ≤ c.skip_plain-end.result) × (c.loop-from.glues ≤ c.skip_plain-end.result) × (c.skip_plain-end.result ≤ length c.args.text.now) × (length c.args.text.now ≤ 65535) = let s = (let so_far_here : Goes c.args.text.now c.args.from c.skip_plain-end.result c.loop-from.conts c.loop-from.glues = told-letters _ _ _ _ _ c.loop-from.invariant _ c.skip_plain-end.ensures.0 in so_far_here) in
          omega (arith, s.few, s.on.inside, s.on.fewer, s.on.forward, c.skip_plain-end.ensures.0.forward, c.requires.0) in small_here),
    )

pub loop-from-preserved-in-Some : goal.loop-from-preserved-in-Some
loop-from-preserved-in-Some c =
    told-letter _ _ _ _ _ ((let so_far_here : Goes c.args.text.now c.args.from c.skip_plain-end.result c.loop-from.conts c.loop-from.glues = told-letters _ _ _ _ _ c.loop-from.invariant _ c.skip_plain-end.ensures.0 in so_far_here)) _ ((let lettered_here : Letter c.args.text.now c.skip_plain-end.result c.in-Some.letter = letter-long _ _ _ (c.in-Some.ensures) in lettered_here))

pub overflow_add-at-in-loop-from : goal.overflow_add-at-in-loop-from
overflow_add-at-in-loop-from c =
    omega (
      arith,
      spells-room _ _ _ 1 ((let glued_here : Glues c.args.text.now c.skip_plain-end.result c.in_ok-glue.glue = c.in_ok-glue.ensures in glued_here)),
      (let small_here : (c.loop-from.at ≤ c.skip_plain-end.result) × (c.loop-from.conts ≤ c.skip_plain-end.result) × (c.loop-from.glues ≤ c.skip_plain-end.result) × (c.skip_plain-end.result ≤ length c.args.text.now) × (length c.args.text.now ≤ 65535) = let s = (let so_far_here : Goes c.args.text.now c.args.from c.skip_plain-end.result c.loop-from.conts c.loop-from.glues = told-letters _ _ _ _ _ c.loop-from.invariant _ c.skip_plain-end.ensures.0 in so_far_here) in
          omega (arith, s.few, s.on.inside, s.on.fewer, s.on.forward, c.skip_plain-end.ensures.0.forward, c.requires.0) in small_here),
    )

pub overflow_cast-conts-in-loop-from : goal.overflow_cast-conts-in-loop-from
overflow_cast-conts-in-loop-from c =
    omega (arith, spells-room _ _ _ 1 ((let glued_here : Glues c.args.text.now c.skip_plain-end.result c.in_ok-glue.glue = c.in_ok-glue.ensures in glued_here)))

pub overflow_sub-conts-in-loop-from : goal.overflow_sub-conts-in-loop-from
overflow_sub-conts-in-loop-from c =
    omega (arith, spells-room _ _ _ 1 ((let glued_here : Glues c.args.text.now c.skip_plain-end.result c.in_ok-glue.glue = c.in_ok-glue.ensures in glued_here)))

pub overflow_add-conts-in-loop-from : goal.overflow_add-conts-in-loop-from
overflow_add-conts-in-loop-from c =
    omega (
      arith,
      spells-room _ _ _ 1 ((let glued_here : Glues c.args.text.now c.skip_plain-end.result c.in_ok-glue.glue = c.in_ok-glue.ensures in glued_here)),
      (let small_here : (c.loop-from.at ≤ c.skip_plain-end.result) × (c.loop-from.conts ≤ c.skip_plain-end.result) × (c.loop-from.glues ≤ c.skip_plain-end.result) × (c.skip_plain-end.result ≤ length c.args.text.now) × (length c.args.text.now ≤ 65535) = let s = (let so_far_here : Goes c.args.text.now c.args.from c.skip_plain-end.result c.loop-from.conts c.loop-from.glues = told-letters _ _ _ _ _ c.loop-from.invariant _ c.skip_plain-end.ensures.0 in so_far_here) in
          omega (arith, s.few, s.on.inside, s.on.fewer, s.on.forward, c.skip_plain-end.ensures.0.forward, c.requires.0) in small_here),
    )

pub loop-from-smaller : goal.loop-from-smaller
loop-from-smaller c =
    omega (
      arith,
      spells-room _ _ _ 1 ((let glued_here : Glues c.args.text.now c.skip_plain-end.result c.in_ok-glue.glue = c.in_ok-glue.ensures in glued_here)),
      (let small_here : (c.loop-from.at ≤ c.skip_plain-end.result) × (c.loop-from.conts ≤ c.skip_plain-end.result) × (c.loop-from.glues ≤ c.skip_plain-end.result) × (c.skip_plain-end.result ≤ length c.args.text.now) × (length c.args.text.now ≤ 65535) = let s = (let so_far_here : Goes c.args.text.now c.args.from c.skip_plain-end.result c.loop-from.conts c.loop-from.glues = told-letters _ _ _ _ _ c.loop-from.invariant _ c.skip_plain-end.ensures.0 in so_far_here) in
          omega (arith, s.few, s.on.inside, s.on.fewer, s.on.forward, c.skip_plain-end.ensures.0.forward, c.requires.0) in small_here),
    )

pub loop-from-preserved : goal.loop-from-preserved
loop-from-preserved c =
    told_more _ _ _ _ _ ((let so_far_here : Goes c.args.text.now c.args.from c.skip_plain-end.result c.loop-from.conts c.loop-from.glues = told-letters _ _ _ _ _ c.loop-from.invariant _ c.skip_plain-end.ensures.0 in so_far_here)) _ 1 ((let glued_here : Glues c.args.text.now c.skip_plain-end.result c.in_ok-glue.glue = c.in_ok-glue.ensures in glued_here))
