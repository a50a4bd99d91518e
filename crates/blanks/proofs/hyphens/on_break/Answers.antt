-- `blanks::hyphens::on_break` meets its contract (rule 7, rule 8).
use Rattle.std.proofs.Common.{sym, ◌∙◌, arith}
use Rattle.steps.specs.BreakLaws.{break_end, break_alone, break_shows, break_hides}
use Rattle.blanks.proofs.hyphens.on_break.Goals as goal

pub returns-in_default : goal.returns-in_default
returns-in_default c =
    break_alone c.args.s c.args.p _ c.args.at c.args.x c.args.m c.requires.0.stands c.requires.1 _ c.next_word_width-ahead.ensures c.in_default.is

pub hyphenated-requires : goal.hyphenated-requires
hyphenated-requires c =
    (c.requires.0.settings, c.requires.0.place, c.requires.0.small, omega (arith, break_end _ _ _ c.requires.0.stands c.requires.1, c.requires.0.stands.within, c.requires.0.short))

pub returns-then-shows : goal.returns-then-shows
returns-then-shows c =
    c.hyphenated.ensures
    ∙ break_shows c.args.s c.args.p _ c.args.at c.args.x c.args.m c.requires.0.stands c.requires.1 _ c.next_word_width-ahead.ensures _ c.in-Some.is (sym c.shows.ensures ∙ c.if-shows.true)

pub returns : goal.returns
returns c =
    break_hides c.args.s c.args.p _ c.args.at c.args.x c.args.m c.requires.0.stands c.requires.1 _ c.next_word_width-ahead.ensures _ c.in-Some.is (sym c.shows.ensures ∙ c.if-shows.false)
