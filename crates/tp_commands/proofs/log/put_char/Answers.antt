use Rattle.std.proofs.Common.{◌≡◌, ◌∙◌, ◌++◌, ap, drop, length, take}
use Rattle.std.proofs.lemmas.Iterator.Adapters.{items_from_extend}
use Rattle.std.proofs.lemmas.Iterator.Consumers.{YieldsList-from_shown}
use Rattle.std.proofs.lemmas.Result.{IfOk-equal}
use Rattle.std.specs.Char.Iter.{escape_rest, escape_steps}
use Rattle.std.specs.Prelude.{OnOk, encode_utf8_all}
use Rattle.std.specs.String.{string_bytes}
use Rattle.tp_commands.proofs.LogLines.{is_escaped}
use Rattle.tp_commands.proofs.log.put_char.Goals as goal

-- the escape's characters are all put after the line
pub returns-then-ch-eq92 : goal.returns-then-ch-eq92
returns-then-ch-eq92 c =
    let before = string_bytes c.args.line.now in
    let all = YieldsList-from_shown escape_steps (λ x. x) escape_rest
    (λ s t h. ap (λ n. length (take n (drop s.from s.chars))) h.1.0) (λ s x t h. h.1.0) c.escape_default.result in
    let grown : OnOk c.extend.result (string_bytes c.extend.new.self ≡ before ++ encode_utf8_all (escape_rest c.escape_default.result)) =
    items_from_extend c.extend.result c.extend.ensures.ran all in
    IfOk-equal c.extend.result _ _ _ grown
    (ap (λ cs. before ++ encode_utf8_all cs) c.escape_default.ensures.rest
    ∙ ap (λ bs. before ++ bs) (is_escaped c.args.ch c.is_control.result c.is_control.ensures c.if-ch-eq92.either))
