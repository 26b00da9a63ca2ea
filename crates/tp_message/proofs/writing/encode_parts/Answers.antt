use Rattle.tp_message.proofs.Common.{◌∙◌, ◌++◌, List, ℕ, ap, sym, refl, map, length-map, to_be_bytes, w32, MessageParts, message_of_parts}
use Rattle.tp_message.proofs.WholeMessage as whole
use Rattle.tp_message.proofs.writing.encode_parts.Goals as goal

pub returns-clause-bytes : goal.returns-clause-bytes
returns-clause-bytes c =
    let D = map (λ c. c.now) c.args.changes.now in
    let m : MessageParts = message_of_parts c.args.heads.now c.args.wants.now c.args.known.now D in
    whole.written m 2 c.args.heads.now c.args.wants.now c.args.known.now D
    c.push.new.self.items c.put_hashes.new.out.items c.put_hashes-2.new.out.items c.put_known.new.out.items c.extend_from_slice.new.self.items c.in_ok-whole.whole.items
    refl refl refl refl refl
    (rw (c.in_ok-push.ensures.items, c.in_ok-out.ensures.items) refl) c.in_ok-put_hashes.ensures c.in_ok-put_hashes-2.ensures c.in_ok-put_known.ensures
    (c.in_ok-extend_from_slice.ensures.items ∙ ap (λ (l : List ℕ). c.put_known.new.out.items ++ l) (c.to_be_bytes.ensures ∙ ap (to_be_bytes w32) (sym (length-map c.args.changes.now (λ c. c.now))))) c.in_ok-whole.ensures.bytes
