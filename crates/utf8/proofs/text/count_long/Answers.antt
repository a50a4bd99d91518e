-- `utf8::text::count_long` meets its contract (refusal 5).
use Rattle.std.proofs.Common.{◌≡◌, ap, ◌∙◌, ◌+◌, ◌-◌, length, drop, length-drop, take_all, arith}
use Rattle.utf8.specs.Places.{count_chars}
use Rattle.utf8.specs.Ascii.{count-few}
use Rattle.utf8.proofs.text.count_long.Goals as goal

pub slice_bounds-count_chars-count : goal.slice_bounds-count_chars-count
slice_bounds-count_chars-count c =
    c.skip_ascii-ascii.ensures.passed.inside

pub slice_bounds-count_chars-start : goal.slice_bounds-count_chars-start
slice_bounds-count_chars-start c =
    c.skip_ascii-ascii.ensures.passed.inside

pub overflow_add-result : goal.overflow_add-result
overflow_add-result c =
    record {
      fits = omega (
        arith,
        (let whole_here : c.skip_ascii-ascii.result + c.count_chars.result ≡ count_chars c.args.text.now = let rest : c.count_chars.result ≡ count_chars (drop c.skip_ascii-ascii.result c.args.text.now)
            = c.count_chars.ensures ∙ ap count_chars (take_all (length c.args.text.now - c.skip_ascii-ascii.result) (drop c.skip_ascii-ascii.result c.args.text.now) (omega (arith, length-drop c.skip_ascii-ascii.result c.args.text.now))) in
            let all : count_chars c.args.text.now ≡ c.skip_ascii-ascii.result - 0 + count_chars (drop c.skip_ascii-ascii.result c.args.text.now) = c.skip_ascii-ascii.ensures.count in
            omega arith in whole_here),
        count-few c.args.text.now,
      );
    }

pub returns : goal.returns
returns c =
    (let whole_here : c.skip_ascii-ascii.result + c.count_chars.result ≡ count_chars c.args.text.now = let rest : c.count_chars.result ≡ count_chars (drop c.skip_ascii-ascii.result c.args.text.now)
    = c.count_chars.ensures ∙ ap count_chars (take_all (length c.args.text.now - c.skip_ascii-ascii.result) (drop c.skip_ascii-ascii.result c.args.text.now) (omega (arith, length-drop c.skip_ascii-ascii.result c.args.text.now))) in
    let all : count_chars c.args.text.now ≡ c.skip_ascii-ascii.result - 0 + count_chars (drop c.skip_ascii-ascii.result c.args.text.now) = c.skip_ascii-ascii.ensures.count in
    omega arith in whole_here)
