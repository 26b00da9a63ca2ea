use Rattle.std.specs.Prelude.{◌≡◌, ◌||◌, Bool, not, map}
use Rattle.std.specs.List.{list_all}
use Rattle.std.specs.String.{string_bytes}
use Rattle.std.proofs.Common.{rules, sym, ◌∙◌}
use Rattle.std.proofs.lemmas.Iterator.{YieldsList-from_slice}
use Rattle.std.proofs.lemmas.Iterator.Search.{all_from_yields_List}
use Rattle.std.proofs.lemmas.List.Folds.{list_all-map}
use Rattle.httparse.specs.Borrowed.{header_parts}
use Rattle.tp_web.specs.Sites.{NamedValue, is_field_named, is_text_among}
use Rattle.tp_web.proofs.site.all_are.Goals as goal

pub returns : goal.returns
returns c =
    let test : NamedValue → Bool = λ f. not (is_field_named c.args.name.now f) || is_text_among (map string_bytes c.args.texts.now) f.1 in
    let seen : c.all.result ≡ list_all (λ h. test (header_parts h)) c.args.fields.now =
    all_from_yields_List _ _ _ c.all.result c.all.ensures.ran (YieldsList-from_slice c.args.fields.now cc) (λ x b q k. search rules) in
    seen ∙ sym (list_all-map test header_parts c.args.fields.now)
