use Rattle.tp_graph.proofs.Common.{◌≡◌, ◌&&◌, ◌∙◌, refl, sym, ap, subst, false, true, Some, None, ops_of, holds, past_changes, slice_get-there, AncestryState, IsMaker}
use Rattle.tp_change.specs.Elements as made
use Rattle.tp_graph.proofs.MakerLaws.{inserted-none, inserted-maker}
use Rattle.tp_ancestry.proofs.PastSetLaws.{holds-past_changes, past_changes-In}
use Rattle.tp_graph.proofs.applied.Applied.is_inserted.Goals as goal

pub returns-then-not-holds : goal.returns-then-not-holds
returns-then-not-holds c =
    let C = c.args.self.now.changes in
    let past_set = c.args.past_set.now in
    let id = c.args.id.now in
    let place = c.in-Some.place in
    let same = c.ancestry-ancestry.ensures in
    let by : IsMaker C id (Some place) = subst (λ (s : AncestryState). IsMaker s.changes id (Some place)) same c.in-Some.ensures in
    let w = slice_get-there C place by.0 in
    let asked : c.holds.result ≡ holds past_set C place = subst (λ (s : AncestryState). c.holds.result ≡ holds past_set s.changes place) same c.holds.ensures in
    let lacks : holds past_set C place ≡ false = sym asked ∙ c.if-not-holds.true in
    let whose = made.is_inserted (made.inserts_in (ops_of w.0)) id in
    ap (λ b. b && whose) (sym lacks)
    ∙ inserted-maker C (past_changes past_set C) id place w.0 (holds past_set C place) whose (past_changes-In past_set C) by w.1 (holds-past_changes past_set C place w.0 c.changes-changes.ensures.sound w.1) refl

pub returns-else-not-holds : goal.returns-else-not-holds
returns-else-not-holds c =
    let C = c.args.self.now.changes in
    let past_set = c.args.past_set.now in
    let id = c.args.id.now in
    let place = c.in-Some.place in
    let same = c.ancestry-ancestry.ensures in
    let by : IsMaker C id (Some place) = subst (λ (s : AncestryState). IsMaker s.changes id (Some place)) same c.in-Some.ensures in
    let w = slice_get-there C place by.0 in
    let asked : c.holds.result ≡ holds past_set C place = subst (λ (s : AncestryState). c.holds.result ≡ holds past_set s.changes place) same c.holds.ensures in
    let held : holds past_set C place ≡ true = sym asked ∙ c.if-not-holds.false in
    ap (λ b. b && c.inserts_at.result) (sym held)
    ∙ inserted-maker C (past_changes past_set C) id place w.0 (holds past_set C place) c.inserts_at.result (past_changes-In past_set C) by w.1 (holds-past_changes past_set C place w.0 c.changes-changes.ensures.sound w.1) (c.inserts_at.ensures w.0 w.1)

pub returns-in-None : goal.returns-in-None
returns-in-None c =
    let C = c.args.self.now.changes in
    let past_set = c.args.past_set.now in
    let by : IsMaker C c.args.id.now None = subst (λ (s : AncestryState). IsMaker s.changes c.args.id.now None) c.ancestry-ancestry.ensures c.in-None.ensures in
    inserted-none C (past_changes past_set C) c.args.id.now (past_changes-In past_set C) by
