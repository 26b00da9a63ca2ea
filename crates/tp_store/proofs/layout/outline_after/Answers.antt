use Rattle.std.proofs.Common.{List, Result, Ok, ℕ, refl, ap, ◌∙◌}
use Rattle.tp_store.specs.declared.error.StoreError.{StoreError}
use Rattle.tp_store.proofs.LayoutFields.{layout_with}
use Rattle.tp_store.proofs.PieceSteps.{pieces_of}
use Rattle.tp_store.proofs.layout.outline_after.Goals as goal

pub returns : goal.returns
returns c =
    let read = c.in_ok-skip_pieces.ensures in
    let mid = c.skip_pieces.new.reader in
    let rest = c.digest_of.new.reader in
    let h = c.args.header in
    let digest = c.in_ok-digest.digest in (
      (layout_with h.id read.0.0 digest, rest),
      pieces_of h c.args.reader.now mid rest digest read.0.0
          (read.1 ∙ ap (λ (b : List ℕ). let r : Result (List (List ℕ) × List ℕ) StoreError = Ok (read.0.0, b) in r) read.2.1)
          c.in_ok-digest.ensures,
      (record { id = refl; count = read.2.0; digest = refl }, refl),
    )
