use Rattle.std.proofs.Common.{Option, List, inl, subst, sym}
use Rattle.std.specs.Str.{chars}
use Rattle.tp_opid.specs.declared.hash.Hash.{Hash}
use Rattle.tp_peer.specs.PeerStep.{Edit, Made, PeerStep}
use Rattle.tp_commands.specs.Updating.{MakesNext}
use Rattle.tp_commands.proofs.Updates.{makes_no_less, makes_one, refused_keeps}
use Rattle.tp_commands.proofs.updating.edit_once.Goals as goal

pub returns-in_ok-push-in-Ok-Some-clause-ok : goal.returns-in_ok-push-in-Ok-Some-clause-ok
returns-in_ok-push-in-Ok-Some-clause-ok g c =
    let step = subst (λ (o : Option Hash). PeerStep c.args.peer.now (Edit c.args.splices.now c.args.time (chars c.args.message.now)) (Made o) c.edit.new.self) c.in-Ok-Some.field-0-is c.in-Ok-Some.ensures.step in
    let made = makes_one c.args.peer.now c.edit.new.self c.args.splices.now c.args.time (chars c.args.message.now) c.args.hashes.now.items c.in-Ok-Some.hash step in
    subst (λ (hs : List Hash). MakesNext c.args.splices.now c.args.time (chars c.args.message.now) c.args.hashes.now.items c.args.peer.now hs c.edit.new.self) (sym c.in_ok-push-in-Ok-Some.ensures.items) made

pub returns-in-Ok-None-clause-ok : goal.returns-in-Ok-None-clause-ok
returns-in-Ok-None-clause-ok g c =
    let step = subst (λ (o : Option Hash). PeerStep c.args.peer.now (Edit c.args.splices.now c.args.time (chars c.args.message.now)) (Made o) c.edit.new.self) c.in-Ok-None.field-0-is c.in-Ok-None.ensures.step in
    makes_no_less c.args.peer.now c.edit.new.self c.args.splices.now c.args.time (chars c.args.message.now) c.args.hashes.now.items c.requires.some step

pub returns-in-Err-clause-left : goal.returns-in-Err-clause-left
returns-in-Err-clause-left g c =
    inl (refused_keeps c.args.peer.now c.edit.new.self c.args.splices.now c.args.time (chars c.args.message.now) c.in-Err.error c.requires.runs c.in-Err.ensures.step)
