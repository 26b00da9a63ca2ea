use Rattle.std.specs.Prelude.{◌≡◌, bytes_eq}
use Rattle.std.specs.List.{list_any}
use Rattle.std.specs.String.{string_bytes}
use Rattle.std.proofs.Common.{rules, sym, ◌∙◌}
use Rattle.std.proofs.lemmas.Iterator.{YieldsList-from_slice}
use Rattle.std.proofs.lemmas.Iterator.Search.{any_from_yields_List}
use Rattle.tp_web.proofs.FieldLists.{list_any-map}
use Rattle.tp_web.proofs.site.is_one_of.Goals as goal

pub returns : goal.returns
returns c =
    let seen : c.any.result ≡ list_any (λ t. bytes_eq (string_bytes t) c.args.value.now) c.args.texts.now =
    any_from_yields_List _ _ _ c.any.result c.any.ensures.ran (YieldsList-from_slice c.args.texts.now cc) (λ x b q k. search rules) in
    seen ∙ sym (list_any-map (λ t. bytes_eq t c.args.value.now) string_bytes c.args.texts.now)
