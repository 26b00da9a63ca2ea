use Rattle.std.proofs.Common.{◌≡◌, ◌∙◌, ◌++◌, [], ◌∷◌, ap, append-nil, append_assoc, lit<, sym}
use Rattle.std.proofs.lemmas.Result.{IfOk-equal}
use Rattle.std.proofs.lemmas.Str.{encodes-chars}
use Rattle.std.specs.List.{flat_map}
use Rattle.std.specs.Str.{chars}
use Rattle.std.specs.String.{string_bytes}
use Rattle.tp_commands.specs.Log.{escaped_char}
use Rattle.tp_commands.proofs.LogLines.{message_given, message_none}
use Rattle.tp_commands.proofs.log.put_message.Goals as goal

pub returns-then-is_empty : goal.returns-then-is_empty
returns-then-is_empty c =
    let before = string_bytes c.args.line.now in
    sym (append-nil before) ∙ ap (λ bs. before ++ bs) (sym (message_none c.args.message.now (sym c.is_empty.ensures ∙ c.if-is_empty.true)))

pub returns : goal.returns
returns c =
    let before = string_bytes c.args.line.now in
    let m = c.args.message.now in
    let spaced : string_bytes c.push.new.self ≡ before ++ 32 ∷ [] =
    c.in_ok-push.ensures.bytes ∙ ap (λ bs. before ++ bs) (c.in_ok-push.ensures.ascii (lit< tt)) in
    IfOk-equal c.put_escaped.result _ _ _ c.put_escaped.ensures
    (ap (λ bs. bs ++ flat_map escaped_char (chars m)) spaced
    ∙ append_assoc before (32 ∷ []) (flat_map escaped_char (chars m))
    ∙ ap (λ bs. before ++ bs) (sym (message_given (chars m) m (encodes-chars m c.utf8.message) (sym c.is_empty.ensures ∙ c.if-is_empty.false))))
