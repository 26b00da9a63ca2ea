use Rattle.std.proofs.Common.{ℕ, Option, sym, subst}
use Rattle.std.specs.String.{string_bytes}
use Rattle.tp_disk.specs.Opening.{CutsFile, MayCutFile}
use Rattle.tp_mirroring.proofs.TurnLaws.{cuts_first, may_cut_first, on_ok, on_refused}
use Rattle.tp_mirroring.proofs.job.mirror.Goals as goal

pub returns-in_default : goal.returns-in_default
returns-in_default g c = record {
  cuts = on_ok c.turn-done.result (λ cuts.
      subst (λ (cut : Option ℕ). CutsFile (g.D.Folders.saw c.args.rt.now) (string_bytes c.args.paths.now.file) cut) (sym c.note_cut.ensures) (cuts_first _ _ _ _ c.loop.invariant cuts)) c.turn-done.ensures.cuts;
  may_cut = on_refused c.turn-done.result
      (subst (λ (cut : Option ℕ). MayCutFile (g.D.Folders.saw c.args.rt.now) (string_bytes c.args.paths.now.file) cut) (sym c.note_cut.ensures) (may_cut_first _ _ _ _ c.loop.invariant c.turn-done.ensures.may_cut));
  mirrors = c.turn-done.ensures.mirrors;
}

pub returns-in_default-2-clause-cuts : goal.returns-in_default-2-clause-cuts
returns-in_default-2-clause-cuts g c = on_ok c.turn-done.result (λ cuts.
    subst (λ (cut : Option ℕ). CutsFile (g.D.Folders.saw c.args.rt.now) (string_bytes c.args.paths.now.file) cut) (sym c.note_cut.ensures) (cuts_first _ _ _ _ c.loop.invariant cuts)) c.turn-done.ensures.cuts

pub loop-preserved : goal.loop-preserved
loop-preserved g c =
    subst (λ (cut : Option ℕ). MayCutFile (g.D.Folders.saw c.args.rt.now) (string_bytes c.args.paths.now.file) cut) (sym c.note_cut.ensures) (may_cut_first _ _ _ _ c.loop.invariant c.turn-done.ensures.may_cut)
