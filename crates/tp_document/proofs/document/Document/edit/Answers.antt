use Rattle.tp_document.proofs.Common.{◌≡◌, List, [], ◌∷◌, ◌++◌, Option, subst, sym, ap, ◌∙◌, chars, ChangeParts, IsTextOf, asking, IsAcceptedEdit, all_spliced, AsksNothing, MatchOption}
use Rattle.tp_document.proofs.EditFits.{edit_text, nothing_spliced}
use Rattle.tp_document.proofs.document.Document.edit.Goals as goal

pub returns-in-Ok-clause-text : goal.returns-in-Ok-clause-text
returns-in-Ok-clause-text g c = λ t text.
    let C = c.args.self.now.applied in
    let asked = asking c.args.actor c.args.splices.now c.args.time (chars c.args.message.now) in
    let edited : IsAcceptedEdit C asked c.in-Ok-Some.change =
    subst (λ (o : Option ChangeParts). MatchOption o (AsksNothing C asked) (λ x. IsAcceptedEdit C asked x)) c.in-Ok-Some.field-0-is c.in-Ok-Some.ensures in
    let after : c.enter.new.self.applied ≡ C ++ c.in-Ok-Some.change ∷ [] = c.enter.ensures.applied ∙ ap (λ (D : List ChangeParts). D ++ c.in-Ok-Some.change ∷ []) c.in-Ok.ensures.stays.applied in
    subst (λ (D : List ChangeParts). IsTextOf D (all_spliced t c.args.splices.now)) (sym after)
    (edit_text C asked c.in-Ok-Some.change t c.changes-count.ensures.sound edited text)

pub returns-in-Ok-None-clause-text : goal.returns-in-Ok-None-clause-text
returns-in-Ok-None-clause-text g c = λ t text.
    let C = c.args.self.now.applied in
    let asked = asking c.args.actor c.args.splices.now c.args.time (chars c.args.message.now) in
    let none : AsksNothing C asked =
    subst (λ (o : Option ChangeParts). MatchOption o (AsksNothing C asked) (λ x. IsAcceptedEdit C asked x)) c.in-Ok-None.field-0-is c.in-Ok-None.ensures in
    subst (IsTextOf C) (sym (nothing_spliced c.args.splices.now t none.1)) text
