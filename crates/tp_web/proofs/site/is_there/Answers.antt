use Rattle.std.specs.Prelude.{◌≡◌}
use Rattle.std.specs.List.{list_any}
use Rattle.std.proofs.Common.{rules, sym, ◌∙◌}
use Rattle.std.proofs.lemmas.Iterator.{YieldsList-from_slice}
use Rattle.std.proofs.lemmas.Iterator.Search.{any_from_yields_List}
use Rattle.httparse.specs.Borrowed.{header_parts}
use Rattle.tp_web.specs.Sites.{is_field_named}
use Rattle.tp_web.proofs.FieldLists.{list_any-map}
use Rattle.tp_web.proofs.site.is_there.Goals as goal

pub returns : goal.returns
returns c =
    let seen : c.any.result ≡ list_any (λ h. is_field_named c.args.name.now (header_parts h)) c.args.fields.now =
    any_from_yields_List _ _ _ c.any.result c.any.ensures.ran (YieldsList-from_slice c.args.fields.now cc) (λ x b q k. search rules) in
    seen ∙ sym (list_any-map (is_field_named c.args.name.now) header_parts c.args.fields.now)
