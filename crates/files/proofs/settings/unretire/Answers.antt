-- `files::settings::unretire` meets its contract (refusal 1, refusal 2, refusal 8, refusal 12).
use Rattle.meaning.specs.Settings.{settings_of}
use Rattle.files.specs.Known.{unretired-same, unretired_without}
use Rattle.files.proofs.settings.unretire.Goals as goal

pub returns-then-s-ne1 : goal.returns-then-s-ne1
returns-then-s-ne1 c =
    unretired-same c.args.s c.if-s-ne1.true

pub returns : goal.returns
unfolding settings_of
returns c =
    unretired_without c.args.s c.if-s-ne1.false
