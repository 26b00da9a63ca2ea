use Rattle.std.proofs.Common.{◌≡◌, ◌∙◌, ◌+◌, ◌-◌, ◌*◌, ◌/◌, ℕ, ap, drop, length, take, arith}
use Rattle.tp_digest.proofs.Paddings.{block_of-whole, block_of-tail}
use Rattle.tp_digest.specs.Blocks.{tail_of}
use Rattle.tp_digest.proofs.padded.Padded.block.Goals as goal

a_block : (n : ℕ) → n + 64 - n ≡ 64
a_block n = omega arith

pub returns-then-index-whole : goal.returns-then-index-whole
returns-then-index-whole c h =
    let m = c.args.self.now.message.now in
    let i = c.args.index in
    let e : 64 * i ≡ i * 64 = omega arith in
    c.array_of.ensures ∙ ap (λ n. take n (drop (64 * i) m)) (a_block (64 * i))
    ∙ ap (λ n. take 64 (drop n m)) e ∙ block_of-whole m i c.if-index-whole.true

pub returns-then-index-self : goal.returns-then-index-self
returns-then-index-self c h =
    let self = c.args.self.now in
    let m = self.message.now in
    let at = 64 * (c.args.index - length m / 64) in
    let end = 64 * self.blocks - length m / 64 * 64 in
    let known : take end self.tail ≡ tail_of m = self.ends in
    c.array_of-then-index-self.ensures ∙ ap (λ n. take n (drop at self.tail)) (a_block at)
    ∙ block_of-tail m self.tail c.args.index end known c.if-index-whole.false (omega arith)
