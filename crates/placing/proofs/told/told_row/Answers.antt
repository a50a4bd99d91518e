use Rattle.std.proofs.Common.{◌+◌, ◌≤◌, ◌<◌, arith, ◌≡◌, sym, ◌∙◌, true, length}
use Rattle.std.proofs.lemmas.Option.{MatchOption-at_some, IfSome_then}
use Rattle.parser.specs.Ascii.{space_at, ender_at}
use Rattle.parser.specs.Letters.{Letter}
use Rattle.parser.specs.LetterLaws.{spells-room}
use Rattle.placing.specs.Told.{Within}
use Rattle.placing.proofs.ToldLaws.{Walk, walk_start, walk_inside, walk-letters, walk_more, walk-fits, walk-waits, walk-full, walk-next}
use Rattle.placing.proofs.told.told_row.Goals as goal

pub overflow_add-to : goal.overflow_add-to
overflow_add-to c =
    omega (arith, spells-room _ _ _ 0 ((let lettered_here : Letter c.args.text.now c.args.at c.in_ok-first.first = c.in_ok-first.ensures in lettered_here)), c.requires.0)

pub overflow_sub-base : goal.overflow_sub-base
overflow_sub-base c =
    omega (arith, spells-room _ _ _ 0 ((let lettered_here : Letter c.args.text.now c.args.at c.in_ok-first.first = c.in_ok-first.ensures in lettered_here)))

pub loop-chars-init : goal.loop-chars-init
loop-chars-init c =
    walk_start _ ((let lettered_here : Letter c.args.text.now c.args.at c.in_ok-first.first = c.in_ok-first.ensures in lettered_here))

pub skip_plain-end-requires : goal.skip_plain-end-requires
skip_plain-end-requires c =
    ((walk_inside c.loop-chars.invariant).1, omega arith)

pub overflow_sub-chars : goal.overflow_sub-chars
overflow_sub-chars c =
    omega (arith, (let small_here : (c.loop-chars.to ≤ c.skip_plain-end.result) × (c.loop-chars.base < c.skip_plain-end.result) × (c.skip_plain-end.result ≤ length c.args.text.now) × (c.loop-chars.next ≤ c.skip_plain-end.result) × (length c.args.text.now ≤ 65535) = let i = walk_inside ((let so_far_here : Walk c.args.text.now c.args.at c.args.most c.skip_plain-end.result c.loop-chars.base c.loop-chars.next c.loop-chars.columns = walk-letters c.loop-chars.invariant _ c.skip_plain-end.ensures.0 in so_far_here)) in omega (arith, c.skip_plain-end.ensures.0.forward, c.requires.0) in small_here))

pub overflow_cast-chars : goal.overflow_cast-chars
overflow_cast-chars c =
    omega (arith, (let small_here : (c.loop-chars.to ≤ c.skip_plain-end.result) × (c.loop-chars.base < c.skip_plain-end.result) × (c.skip_plain-end.result ≤ length c.args.text.now) × (c.loop-chars.next ≤ c.skip_plain-end.result) × (length c.args.text.now ≤ 65535) = let i = walk_inside ((let so_far_here : Walk c.args.text.now c.args.at c.args.most c.skip_plain-end.result c.loop-chars.base c.loop-chars.next c.loop-chars.columns = walk-letters c.loop-chars.invariant _ c.skip_plain-end.ensures.0 in so_far_here)) in omega (arith, c.skip_plain-end.ensures.0.forward, c.requires.0) in small_here))

pub overflow_add-end : goal.overflow_add-end
overflow_add-end c =
    omega (arith, (let small_here : (c.loop-chars.to ≤ c.skip_plain-end.result) × (c.loop-chars.base < c.skip_plain-end.result) × (c.skip_plain-end.result ≤ length c.args.text.now) × (c.loop-chars.next ≤ c.skip_plain-end.result) × (length c.args.text.now ≤ 65535) = let i = walk_inside ((let so_far_here : Walk c.args.text.now c.args.at c.args.most c.skip_plain-end.result c.loop-chars.base c.loop-chars.next c.loop-chars.columns = walk-letters c.loop-chars.invariant _ c.skip_plain-end.ensures.0 in so_far_here)) in omega (arith, c.skip_plain-end.ensures.0.forward, c.requires.0) in small_here))

pub waiting_row-requires : goal.waiting_row-requires
waiting_row-requires c =
    omega (arith, (let small_here : (c.loop-chars.to ≤ c.skip_plain-end.result) × (c.loop-chars.base < c.skip_plain-end.result) × (c.skip_plain-end.result ≤ length c.args.text.now) × (c.loop-chars.next ≤ c.skip_plain-end.result) × (length c.args.text.now ≤ 65535) = let i = walk_inside ((let so_far_here : Walk c.args.text.now c.args.at c.args.most c.skip_plain-end.result c.loop-chars.base c.loop-chars.next c.loop-chars.columns = walk-letters c.loop-chars.invariant _ c.skip_plain-end.ensures.0 in so_far_here)) in omega (arith, c.skip_plain-end.ensures.0.forward, c.requires.0) in small_here))

pub returns-then-most-chars : goal.returns-then-most-chars
returns-then-most-chars c =
    IfSome_then c.waiting_row.result c.waiting_row.ensures λ r w. rw w.1 (walk-waits ((let so_far_here : Walk c.args.text.now c.args.at c.args.most c.skip_plain-end.result c.loop-chars.base c.loop-chars.next c.loop-chars.columns = walk-letters c.loop-chars.invariant _ c.skip_plain-end.ensures.0 in so_far_here)) ((let ended_here : ender_at c.args.text.now c.skip_plain-end.result ≡ true = sym c.ends_at.ensures ∙ c.if-ends_at.true in ended_here)) (omega (arith, c.if-most-chars.true)) w.0)

pub ending_row-requires : goal.ending_row-requires
ending_row-requires c =
    let s = (let small_here : (c.loop-chars.to ≤ c.skip_plain-end.result) × (c.loop-chars.base < c.skip_plain-end.result) × (c.skip_plain-end.result ≤ length c.args.text.now) × (c.loop-chars.next ≤ c.skip_plain-end.result) × (length c.args.text.now ≤ 65535) = let i = walk_inside ((let so_far_here : Walk c.args.text.now c.args.at c.args.most c.skip_plain-end.result c.loop-chars.base c.loop-chars.next c.loop-chars.columns = walk-letters c.loop-chars.invariant _ c.skip_plain-end.ensures.0 in so_far_here)) in omega (arith, c.skip_plain-end.ensures.0.forward, c.requires.0) in small_here) in
    (s.4, s.2, (let ended_here : ender_at c.args.text.now c.skip_plain-end.result ≡ true = sym c.ends_at.ensures ∙ c.if-ends_at.true in ended_here), sym c.space_at.ensures ∙ c.if-not-space_at.true)

pub returns-then-not-space_at : goal.returns-then-not-space_at
returns-then-not-space_at c =
    c.ending_row.ensures _ _ (walk-fits ((let so_far_here : Walk c.args.text.now c.args.at c.args.most c.skip_plain-end.result c.loop-chars.base c.loop-chars.next c.loop-chars.columns = walk-letters c.loop-chars.invariant _ c.skip_plain-end.ensures.0 in so_far_here)) ((let ended_here : ender_at c.args.text.now c.skip_plain-end.result ≡ true = sym c.ends_at.ensures ∙ c.if-ends_at.true in ended_here)) (omega (arith, c.if-most-chars.false)))

pub overflow_add-next : goal.overflow_add-next
overflow_add-next c =
    omega (arith, (let small_here : (c.loop-chars.to ≤ c.skip_plain-end.result) × (c.loop-chars.base < c.skip_plain-end.result) × (c.skip_plain-end.result ≤ length c.args.text.now) × (c.loop-chars.next ≤ c.skip_plain-end.result) × (length c.args.text.now ≤ 65535) = let i = walk_inside ((let so_far_here : Walk c.args.text.now c.args.at c.args.most c.skip_plain-end.result c.loop-chars.base c.loop-chars.next c.loop-chars.columns = walk-letters c.loop-chars.invariant _ c.skip_plain-end.ensures.0 in so_far_here)) in omega (arith, c.skip_plain-end.ensures.0.forward, c.requires.0) in small_here))

pub overflow_add-to-then-ends_at : goal.overflow_add-to-then-ends_at
overflow_add-to-then-ends_at c =
    omega (arith, (let room_here : (1 ≤ c.in_ok-letter.letter) × (c.skip_plain-end.result + 1 + c.in_ok-letter.letter ≤ length c.args.text.now) × (length c.args.text.now ≤ 65535) × (c.loop-chars.to ≤ c.skip_plain-end.result) × (c.loop-chars.base < c.skip_plain-end.result) = let r = spells-room _ _ _ 0 ((let behind_here : Letter c.args.text.now (c.skip_plain-end.result + 1) c.in_ok-letter.letter = c.in_ok-letter.ensures in behind_here)) in omega (arith, (let small_here : (c.loop-chars.to ≤ c.skip_plain-end.result) × (c.loop-chars.base < c.skip_plain-end.result) × (c.skip_plain-end.result ≤ length c.args.text.now) × (c.loop-chars.next ≤ c.skip_plain-end.result) × (length c.args.text.now ≤ 65535) = let i = walk_inside ((let so_far_here : Walk c.args.text.now c.args.at c.args.most c.skip_plain-end.result c.loop-chars.base c.loop-chars.next c.loop-chars.columns = walk-letters c.loop-chars.invariant _ c.skip_plain-end.ensures.0 in so_far_here)) in omega (arith, c.skip_plain-end.ensures.0.forward, c.requires.0) in small_here)) in room_here))

pub told_at-requires : goal.told_at-requires
told_at-requires c =
    omega (arith, (let room_here : (1 ≤ c.in_ok-letter.letter) × (c.skip_plain-end.result + 1 + c.in_ok-letter.letter ≤ length c.args.text.now) × (length c.args.text.now ≤ 65535) × (c.loop-chars.to ≤ c.skip_plain-end.result) × (c.loop-chars.base < c.skip_plain-end.result) = let r = spells-room _ _ _ 0 ((let behind_here : Letter c.args.text.now (c.skip_plain-end.result + 1) c.in_ok-letter.letter = c.in_ok-letter.ensures in behind_here)) in omega (arith, (let small_here : (c.loop-chars.to ≤ c.skip_plain-end.result) × (c.loop-chars.base < c.skip_plain-end.result) × (c.skip_plain-end.result ≤ length c.args.text.now) × (c.loop-chars.next ≤ c.skip_plain-end.result) × (length c.args.text.now ≤ 65535) = let i = walk_inside ((let so_far_here : Walk c.args.text.now c.args.at c.args.most c.skip_plain-end.result c.loop-chars.base c.loop-chars.next c.loop-chars.columns = walk-letters c.loop-chars.invariant _ c.skip_plain-end.ensures.0 in so_far_here)) in omega (arith, c.skip_plain-end.ensures.0.forward, c.requires.0) in small_here)) in room_here))

pub returns-then-chars-most : goal.returns-then-chars-most
returns-then-chars-most c =
    rw c.told_at.ensures
    (walk-full ((let so_far_here : Walk c.args.text.now c.args.at c.args.most c.skip_plain-end.result c.loop-chars.base c.loop-chars.next c.loop-chars.columns = walk-letters c.loop-chars.invariant _ c.skip_plain-end.ensures.0 in so_far_here)) ((let ended_here : ender_at c.args.text.now c.skip_plain-end.result ≡ true = sym c.ends_at.ensures ∙ c.if-ends_at.true in ended_here)) ((let spaced_here : space_at c.args.text.now c.skip_plain-end.result ≡ true = sym c.space_at.ensures ∙ c.if-not-space_at.false in spaced_here)) _ ((let behind_here : Letter c.args.text.now (c.skip_plain-end.result + 1) c.in_ok-letter.letter = c.in_ok-letter.ensures in behind_here)) (omega (arith, c.if-chars-most.true)))

pub overflow_sub-base-then-ends_at : goal.overflow_sub-base-then-ends_at
overflow_sub-base-then-ends_at c =
    omega (arith, (let room_here : (1 ≤ c.in_ok-letter.letter) × (c.skip_plain-end.result + 1 + c.in_ok-letter.letter ≤ length c.args.text.now) × (length c.args.text.now ≤ 65535) × (c.loop-chars.to ≤ c.skip_plain-end.result) × (c.loop-chars.base < c.skip_plain-end.result) = let r = spells-room _ _ _ 0 ((let behind_here : Letter c.args.text.now (c.skip_plain-end.result + 1) c.in_ok-letter.letter = c.in_ok-letter.ensures in behind_here)) in omega (arith, (let small_here : (c.loop-chars.to ≤ c.skip_plain-end.result) × (c.loop-chars.base < c.skip_plain-end.result) × (c.skip_plain-end.result ≤ length c.args.text.now) × (c.loop-chars.next ≤ c.skip_plain-end.result) × (length c.args.text.now ≤ 65535) = let i = walk_inside ((let so_far_here : Walk c.args.text.now c.args.at c.args.most c.skip_plain-end.result c.loop-chars.base c.loop-chars.next c.loop-chars.columns = walk-letters c.loop-chars.invariant _ c.skip_plain-end.ensures.0 in so_far_here)) in omega (arith, c.skip_plain-end.ensures.0.forward, c.requires.0) in small_here)) in room_here))

pub overflow_add-base : goal.overflow_add-base
overflow_add-base c =
    omega (arith, (let room_here : (1 ≤ c.in_ok-letter.letter) × (c.skip_plain-end.result + 1 + c.in_ok-letter.letter ≤ length c.args.text.now) × (length c.args.text.now ≤ 65535) × (c.loop-chars.to ≤ c.skip_plain-end.result) × (c.loop-chars.base < c.skip_plain-end.result) = let r = spells-room _ _ _ 0 ((let behind_here : Letter c.args.text.now (c.skip_plain-end.result + 1) c.in_ok-letter.letter = c.in_ok-letter.ensures in behind_here)) in omega (arith, (let small_here : (c.loop-chars.to ≤ c.skip_plain-end.result) × (c.loop-chars.base < c.skip_plain-end.result) × (c.skip_plain-end.result ≤ length c.args.text.now) × (c.loop-chars.next ≤ c.skip_plain-end.result) × (length c.args.text.now ≤ 65535) = let i = walk_inside ((let so_far_here : Walk c.args.text.now c.args.at c.args.most c.skip_plain-end.result c.loop-chars.base c.loop-chars.next c.loop-chars.columns = walk-letters c.loop-chars.invariant _ c.skip_plain-end.ensures.0 in so_far_here)) in omega (arith, c.skip_plain-end.ensures.0.forward, c.requires.0) in small_here)) in room_here))

pub loop-chars-smaller-then-ends_at : goal.loop-chars-smaller-then-ends_at
loop-chars-smaller-then-ends_at c =
    omega (arith, (let room_here : (1 ≤ c.in_ok-letter.letter) × (c.skip_plain-end.result + 1 + c.in_ok-letter.letter ≤ length c.args.text.now) × (length c.args.text.now ≤ 65535) × (c.loop-chars.to ≤ c.skip_plain-end.result) × (c.loop-chars.base < c.skip_plain-end.result) = let r = spells-room _ _ _ 0 ((let behind_here : Letter c.args.text.now (c.skip_plain-end.result + 1) c.in_ok-letter.letter = c.in_ok-letter.ensures in behind_here)) in omega (arith, (let small_here : (c.loop-chars.to ≤ c.skip_plain-end.result) × (c.loop-chars.base < c.skip_plain-end.result) × (c.skip_plain-end.result ≤ length c.args.text.now) × (c.loop-chars.next ≤ c.skip_plain-end.result) × (length c.args.text.now ≤ 65535) = let i = walk_inside ((let so_far_here : Walk c.args.text.now c.args.at c.args.most c.skip_plain-end.result c.loop-chars.base c.loop-chars.next c.loop-chars.columns = walk-letters c.loop-chars.invariant _ c.skip_plain-end.ensures.0 in so_far_here)) in omega (arith, c.skip_plain-end.ensures.0.forward, c.requires.0) in small_here)) in room_here))

pub loop-chars-preserved-then-ends_at : goal.loop-chars-preserved-then-ends_at
loop-chars-preserved-then-ends_at c =
    walk-next ((let so_far_here : Walk c.args.text.now c.args.at c.args.most c.skip_plain-end.result c.loop-chars.base c.loop-chars.next c.loop-chars.columns = walk-letters c.loop-chars.invariant _ c.skip_plain-end.ensures.0 in so_far_here)) ((let ended_here : ender_at c.args.text.now c.skip_plain-end.result ≡ true = sym c.ends_at.ensures ∙ c.if-ends_at.true in ended_here)) ((let spaced_here : space_at c.args.text.now c.skip_plain-end.result ≡ true = sym c.space_at.ensures ∙ c.if-not-space_at.false in spaced_here)) _ ((let behind_here : Letter c.args.text.now (c.skip_plain-end.result + 1) c.in_ok-letter.letter = c.in_ok-letter.ensures in behind_here)) (omega (arith, c.if-chars-most.false, c.if-most-chars.false))

pub overflow_add-to-in-loop-chars : goal.overflow_add-to-in-loop-chars
overflow_add-to-in-loop-chars c =
    omega (arith, (let inside_here : (1 ≤ c.in_ok-inner.inner) × (c.skip_plain-end.result + c.in_ok-inner.inner ≤ length c.args.text.now) × (length c.args.text.now ≤ 65535) × (c.loop-chars.to ≤ c.skip_plain-end.result) × (c.loop-chars.base < c.skip_plain-end.result) = let r = spells-room _ _ _ ((let inner_here : Within c.args.text.now c.skip_plain-end.result c.in_ok-inner.inner = MatchOption-at_some _ _ _ c.in_ok-inner.was c.inner_len.ensures in inner_here)).glues ((let inner_here : Within c.args.text.now c.skip_plain-end.result c.in_ok-inner.inner = MatchOption-at_some _ _ _ c.in_ok-inner.was c.inner_len.ensures in inner_here)).spells in omega (arith, (let small_here : (c.loop-chars.to ≤ c.skip_plain-end.result) × (c.loop-chars.base < c.skip_plain-end.result) × (c.skip_plain-end.result ≤ length c.args.text.now) × (c.loop-chars.next ≤ c.skip_plain-end.result) × (length c.args.text.now ≤ 65535) = let i = walk_inside ((let so_far_here : Walk c.args.text.now c.args.at c.args.most c.skip_plain-end.result c.loop-chars.base c.loop-chars.next c.loop-chars.columns = walk-letters c.loop-chars.invariant _ c.skip_plain-end.ensures.0 in so_far_here)) in omega (arith, c.skip_plain-end.ensures.0.forward, c.requires.0) in small_here)) in inside_here))

pub overflow_sub-base-in-loop-chars : goal.overflow_sub-base-in-loop-chars
overflow_sub-base-in-loop-chars c =
    omega (arith, (let inside_here : (1 ≤ c.in_ok-inner.inner) × (c.skip_plain-end.result + c.in_ok-inner.inner ≤ length c.args.text.now) × (length c.args.text.now ≤ 65535) × (c.loop-chars.to ≤ c.skip_plain-end.result) × (c.loop-chars.base < c.skip_plain-end.result) = let r = spells-room _ _ _ ((let inner_here : Within c.args.text.now c.skip_plain-end.result c.in_ok-inner.inner = MatchOption-at_some _ _ _ c.in_ok-inner.was c.inner_len.ensures in inner_here)).glues ((let inner_here : Within c.args.text.now c.skip_plain-end.result c.in_ok-inner.inner = MatchOption-at_some _ _ _ c.in_ok-inner.was c.inner_len.ensures in inner_here)).spells in omega (arith, (let small_here : (c.loop-chars.to ≤ c.skip_plain-end.result) × (c.loop-chars.base < c.skip_plain-end.result) × (c.skip_plain-end.result ≤ length c.args.text.now) × (c.loop-chars.next ≤ c.skip_plain-end.result) × (length c.args.text.now ≤ 65535) = let i = walk_inside ((let so_far_here : Walk c.args.text.now c.args.at c.args.most c.skip_plain-end.result c.loop-chars.base c.loop-chars.next c.loop-chars.columns = walk-letters c.loop-chars.invariant _ c.skip_plain-end.ensures.0 in so_far_here)) in omega (arith, c.skip_plain-end.ensures.0.forward, c.requires.0) in small_here)) in inside_here))

pub overflow_add-base-in-loop-chars : goal.overflow_add-base-in-loop-chars
overflow_add-base-in-loop-chars c =
    omega (arith, (let inside_here : (1 ≤ c.in_ok-inner.inner) × (c.skip_plain-end.result + c.in_ok-inner.inner ≤ length c.args.text.now) × (length c.args.text.now ≤ 65535) × (c.loop-chars.to ≤ c.skip_plain-end.result) × (c.loop-chars.base < c.skip_plain-end.result) = let r = spells-room _ _ _ ((let inner_here : Within c.args.text.now c.skip_plain-end.result c.in_ok-inner.inner = MatchOption-at_some _ _ _ c.in_ok-inner.was c.inner_len.ensures in inner_here)).glues ((let inner_here : Within c.args.text.now c.skip_plain-end.result c.in_ok-inner.inner = MatchOption-at_some _ _ _ c.in_ok-inner.was c.inner_len.ensures in inner_here)).spells in omega (arith, (let small_here : (c.loop-chars.to ≤ c.skip_plain-end.result) × (c.loop-chars.base < c.skip_plain-end.result) × (c.skip_plain-end.result ≤ length c.args.text.now) × (c.loop-chars.next ≤ c.skip_plain-end.result) × (length c.args.text.now ≤ 65535) = let i = walk_inside ((let so_far_here : Walk c.args.text.now c.args.at c.args.most c.skip_plain-end.result c.loop-chars.base c.loop-chars.next c.loop-chars.columns = walk-letters c.loop-chars.invariant _ c.skip_plain-end.ensures.0 in so_far_here)) in omega (arith, c.skip_plain-end.ensures.0.forward, c.requires.0) in small_here)) in inside_here))

pub loop-chars-smaller : goal.loop-chars-smaller
loop-chars-smaller c =
    omega (arith, (let inside_here : (1 ≤ c.in_ok-inner.inner) × (c.skip_plain-end.result + c.in_ok-inner.inner ≤ length c.args.text.now) × (length c.args.text.now ≤ 65535) × (c.loop-chars.to ≤ c.skip_plain-end.result) × (c.loop-chars.base < c.skip_plain-end.result) = let r = spells-room _ _ _ ((let inner_here : Within c.args.text.now c.skip_plain-end.result c.in_ok-inner.inner = MatchOption-at_some _ _ _ c.in_ok-inner.was c.inner_len.ensures in inner_here)).glues ((let inner_here : Within c.args.text.now c.skip_plain-end.result c.in_ok-inner.inner = MatchOption-at_some _ _ _ c.in_ok-inner.was c.inner_len.ensures in inner_here)).spells in omega (arith, (let small_here : (c.loop-chars.to ≤ c.skip_plain-end.result) × (c.loop-chars.base < c.skip_plain-end.result) × (c.skip_plain-end.result ≤ length c.args.text.now) × (c.loop-chars.next ≤ c.skip_plain-end.result) × (length c.args.text.now ≤ 65535) = let i = walk_inside ((let so_far_here : Walk c.args.text.now c.args.at c.args.most c.skip_plain-end.result c.loop-chars.base c.loop-chars.next c.loop-chars.columns = walk-letters c.loop-chars.invariant _ c.skip_plain-end.ensures.0 in so_far_here)) in omega (arith, c.skip_plain-end.ensures.0.forward, c.requires.0) in small_here)) in inside_here))

pub loop-chars-preserved : goal.loop-chars-preserved
loop-chars-preserved c =
    walk_more ((let so_far_here : Walk c.args.text.now c.args.at c.args.most c.skip_plain-end.result c.loop-chars.base c.loop-chars.next c.loop-chars.columns = walk-letters c.loop-chars.invariant _ c.skip_plain-end.ensures.0 in so_far_here)) _ ((let inner_here : Within c.args.text.now c.skip_plain-end.result c.in_ok-inner.inner = MatchOption-at_some _ _ _ c.in_ok-inner.was c.inner_len.ensures in inner_here))
