use Rattle.std.proofs.Common.{List, Result, Ok, Err, subst}
use Rattle.std.specs.Prelude.{IfOk}
use Rattle.std.specs.Str.{chars}
use Rattle.tp_edit.specs.declared.splice.Splice.{Splice}
use Rattle.tp_commands.specs.Cutting.{AreCutUp}
use Rattle.tp_commands.proofs.PartLaws.{parts_lead}
use Rattle.tp_commands.proofs.cutting.differences_in_parts.Goals as goal

-- what is said of each value is said of the one that was answered
on_value : {A E : Type 0} (P Q : A → Type 0) (r : Result A E) → IfOk r P → ((x : A) → P x → Q x) → IfOk r Q
on_value P Q (Ok x) p f = f x p
on_value P Q (Err e) p f = tt

pub returns-clause-leads : goal.returns-clause-leads
returns-clause-leads c =
    on_value _ _ c.cut_up.result c.cut_up.ensures (λ parts cut. parts_lead (chars c.args.old.now) (chars c.args.new.now) c.in_ok-stretches.stretches.items parts.items c.in_ok-stretches.ensures
    (subst (λ (ss : List Splice). AreCutUp ss parts.items) c.deref.ensures.value cut))
