-- What the head that was parsed asks for.
use Rattle.std.specs.Prelude.{◌≡◌, ℕ, List, map, Option, Some, None, option_copied, unwrap_or}
use Rattle.std.proofs.Common.{ap, ◌∙◌, Bor}
use Rattle.httparse.proofs.GrammarLemmas.{request_unique}
use Rattle.httparse.specs.declared.borrowed.Request.{Request}
use Rattle.httparse.specs.Borrowed.{HoldsSomeRequest, header_parts}
use Rattle.httparse.specs.Grammar.{ReadsRequest, RequestHead}
use Rattle.tp_web.specs.declared.site.Site.{Site}
use Rattle.tp_web.specs.declared.site.Wanted.{Wanted}
use Rattle.tp_web.specs.Sites.{NamedValue, wanted_by_head, wanted_of}

-- a text that is there
pub present : (text : Option (Bor (List ℕ))) (other : Bor (List ℕ)) (bytes : List ℕ) → option_copied text ≡ Some bytes → (unwrap_or text other).now ≡ bytes
present None other bytes is = cc
present (Some text) other bytes is = cc

-- what the parsed request is for, its head is for
pub wanted_by_parsed : (site : Site) (bytes : List ℕ) (r : Request) (len : ℕ) (method path no_method no_path : Bor (List ℕ)) (wanted : Wanted)
    → HoldsSomeRequest bytes r len
    → method ≡ unwrap_or r.method no_method → path ≡ unwrap_or r.path no_path
    → wanted ≡ wanted_of site method.now path.now (map header_parts r.headers.now)
    → (head : RequestHead) (rest : List ℕ) → ReadsRequest bytes head rest → wanted ≡ wanted_by_head site head
wanted_by_parsed site bytes r len method path no_method no_path wanted held method_is path_is is head rest reads =
    let parsed = held.0 in
    let m : method.now ≡ parsed.method = ap (λ (t : Bor (List ℕ)). t.now) method_is ∙ present r.method no_method parsed.method held.1.method in
    let p : path.now ≡ parsed.target = ap (λ (t : Bor (List ℕ)). t.now) path_is ∙ present r.path no_path parsed.target held.1.path in
    is
    ∙ ap (λ t. wanted_of site t path.now (map header_parts r.headers.now)) m
    ∙ ap (λ t. wanted_of site parsed.method t (map header_parts r.headers.now)) p
    ∙ ap (λ (fields : List NamedValue). wanted_of site parsed.method parsed.target fields) held.1.fields
    ∙ ap (wanted_by_head site) (request_unique bytes parsed head _ rest held.1.reads reads).0
