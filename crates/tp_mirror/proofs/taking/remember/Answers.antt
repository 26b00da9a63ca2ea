use Rattle.std.proofs.Common.{refl}
use Rattle.tp_mirror.proofs.Keeping.{can-remember, kept-state}
use Rattle.tp_mirror.proofs.taking.remember.Goals as goal

pub save-requires-clause-can : goal.save-requires-clause-can
save-requires-clause-can g c =
    can-remember _ c.args.state.now c.number_of.new.state c.forget_second.new.state _ c.in_ok-number.number (record { generation = c.in_ok-number.number; text = c.args.made }) c.args.made c.requires.kept c.requires.made refl
    c.in_ok-number.ensures c.forget_second.ensures.others c.forget_second.ensures.texts c.in_ok-push.ensures refl refl c.in_ok-next.ensures.seq

pub returns-clause-kept : goal.returns-clause-kept
returns-clause-kept g c =
    kept-state _ _ _ c.in_ok-save.ensures
    (can-remember _ c.args.state.now c.number_of.new.state c.forget_second.new.state _ c.in_ok-number.number (record { generation = c.in_ok-number.number; text = c.args.made }) c.args.made c.requires.kept c.requires.made refl
    c.in_ok-number.ensures c.forget_second.ensures.others c.forget_second.ensures.texts c.in_ok-push.ensures refl refl c.in_ok-next.ensures.seq)
