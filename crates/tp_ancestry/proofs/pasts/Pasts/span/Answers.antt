use Rattle.tp_ancestry.proofs.Common.{refl, slice_get_read}
use Rattle.tp_ancestry.proofs.pasts.Pasts.span.Goals as goal

pub returns-then-prefix-lt-NO_PREFIX : goal.returns-then-prefix-lt-NO_PREFIX
returns-then-prefix-lt-NO_PREFIX c = λ C w d at.
    w.spans c.args.place d c.index-prefix.result.now at (slice_get_read c.args.self.now.prefixes.items _ c.args.place c.index-prefix.result.now refl c.requires c.index-prefix.ensures) c.if-prefix-lt-NO_PREFIX.true
