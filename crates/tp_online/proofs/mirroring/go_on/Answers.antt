use Rattle.std.specs.String.{string_bytes}
use Rattle.tp_online.proofs.MirrorLaws.{says_more, says_nothing}
use Rattle.tp_online.proofs.mirroring.go_on.Goals as goal

-- nothing was said yet
pub loop-turn-init : goal.loop-turn-init
loop-turn-init g c = (c.requires, says_nothing (g.R.Folders.saw c.args.rt.now) (string_bytes c.args.paths.now.file) (g.E.Write.contents c.args.err.now))

-- one turn more was done, or was refused
pub loop-turn-preserved : goal.loop-turn-preserved
loop-turn-preserved g c = (
  c.in_ok-look_and_do.ensures.none,
  says_more (g.R.Folders.saw c.args.rt.now) (string_bytes c.args.paths.now.file) (g.E.Write.contents c.args.err.now) (g.E.Write.contents c.loop-turn.err) (g.E.Write.contents c.look_and_do.new.err)
      c.loop-turn.invariant.1 c.in_ok-look_and_do.ensures.told,
)

pub returns-in_err-look_and_do-clause-told : goal.returns-in_err-look_and_do-clause-told
returns-in_err-look_and_do-clause-told g c =
    says_more (g.R.Folders.saw c.args.rt.now) (string_bytes c.args.paths.now.file) (g.E.Write.contents c.args.err.now) (g.E.Write.contents c.loop-turn.err) (g.E.Write.contents c.look_and_do.new.err)
    c.loop-turn.invariant.1 c.in_err-look_and_do.ensures.told
