use Rattle.std.proofs.Common.{◌≡◌, ◌++◌, sym, ◌∙◌, ap}
use Rattle.std.specs.Prelude.{encode_utf8}
use Rattle.std.proofs.lemmas.Str.{chars_past_char}
use Rattle.tp_change.proofs.ops.first_char.Goals as goal

pub returns : goal.returns
returns c =
    let cut : c.args.text.now ≡ encode_utf8 c.in_ok-ch.ch ++ c.as_str.result.now =
    sym c.chars-rest.ensures.rest ∙ c.in_ok-ch.ensures.steps.0 ∙ ap (λ rest. encode_utf8 c.in_ok-ch.ch ++ rest) (sym c.as_str.ensures) in
    chars_past_char _ _ _ c.utf8.text cut
