use Rattle.std.proofs.Common.{sym, ◌∙◌}
use Rattle.tp_online.specs.Watching.{note_of}
use Rattle.tp_online.proofs.WatchLaws.{once_more, turned_more}
use Rattle.tp_online.proofs.watching.keep_watch.Goals as goal

pub loop-preserved : goal.loop-preserved
loop-preserved g c =
    let saw = g.R.Folders.saw c.args.rt.now in
    let note = note_of c.args.mirrored.now in
    let looked = once_more saw note c.args.seat c.loop.own c.visit.new.seat c.loop.invariant.watches c.visit.ensures.served c.visit.ensures.visits in
    record {
      can = tt;
      finite = tt;
      watches = turned_more saw note c.args.seat c.visit.new.seat c.turn_of-own.result looked (c.turn_of-own.ensures.served ∙ sym (looked.served ∙ c.requires)) c.turn_of-own.ensures.turned;
    }
