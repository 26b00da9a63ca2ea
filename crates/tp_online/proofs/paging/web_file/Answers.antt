use Rattle.tp_online.specs.Showing.{ShowsJournal}
use Rattle.tp_online.specs.Watching.{note_of}
use Rattle.tp_online.proofs.BesideLaws.{note_given, with_note}
use Rattle.tp_online.proofs.FollowLaws.{reports_more}
use Rattle.tp_online.proofs.paging.web_file.Goals as goal

-- what was cut off was said at the first turn with the text file, and then as it was shown
pub returns-in-Ok-clause-early : goal.returns-in-Ok-clause-early
returns-in-Ok-clause-early g c =
    reports_more (g.R.Folders.saw c.args.rt.now) c.args.file.now (g.E.Write.contents c.args.err.now) (g.E.Write.contents c.prepare.new.err) (g.E.Write.contents c.show_source.new.err)
    c.prepare.ensures.early c.show_source.ensures.early

-- the text file is the one that was asked for
pub returns-in-Ok-clause-shown : goal.returns-in-Ok-clause-shown
returns-in-Ok-clause-shown g c =
    let saw = g.R.Folders.saw c.args.rt.now in
    with_note saw c.args.file.now _ (note_of c.in-Ok.mirrored) (λ note bytes p. ShowsJournal saw note c.args.hosting c.args.key bytes p) c.show_source.result
    (note_given c.in-Ok.mirrored c.args.noted.now c.in-Ok.ensures.some) c.show_source.ensures.shown
