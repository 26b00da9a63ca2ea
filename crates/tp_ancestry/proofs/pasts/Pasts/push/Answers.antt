use Rattle.tp_ancestry.proofs.Common.{◌≡◌, ◌∙◌, length, Option, subst, arith, vec_len, VersionVector, IsKnown}
use Rattle.tp_ancestry.proofs.PastsLaws.{AreVectorsAt-more, AreVectorsAt-push, ArePasts-push}
use Rattle.tp_ancestry.proofs.pasts.Pasts.push.Goals as goal

pub returns-then-prefix-lt-NO_PREFIX : goal.returns-then-prefix-lt-NO_PREFIX
returns-then-prefix-lt-NO_PREFIX c = λ C x s f w known.
    let old = c.args.self.now in
    rw c.push_within.ensures
    (ArePasts-push C x old.prefixes.items old.vectors.items old.vectors.items c.span_of-prefix.result s f w (c.span_of-prefix.ensures C x.deps known) (AreVectorsAt-more C x old.vectors.items s f w.vectors))

pub returns-in-Some : goal.returns-in-Some
returns-in-Some c = λ C x s f w known.
    let old = c.args.self.now in
    let whole : vec_len old.prefixes ≡ length old.prefixes.items = omega (arith, old.prefixes.ok.0) in
    let own = subst (λ (o : Option VersionVector). IsKnown C x.deps o) c.in-Some.is known in
    let vectors = AreVectorsAt-push C x old.vectors.items _ s f (c.len-place.ensures ∙ whole ∙ w.each) own w.vectors in
    rw (c.push_within.ensures, c.push_within-in-Some.ensures)
    (ArePasts-push C x old.prefixes.items old.vectors.items _ c.span_of-prefix.result s f w (c.span_of-prefix.ensures C x.deps known) vectors)

pub returns-in_default : goal.returns-in_default
returns-in_default c = λ C x s f w known.
    let old = c.args.self.now in
    rw c.push_within.ensures
    (ArePasts-push C x old.prefixes.items old.vectors.items old.vectors.items c.span_of-prefix.result s f w (c.span_of-prefix.ensures C x.deps known) (AreVectorsAt-more C x old.vectors.items s f w.vectors))
