use Rattle.std.proofs.Common.{◌≡◌, ◌++◌, ◌∙◌, ap, arith, length, subst, sym, List}
use Rattle.std.proofs.lemmas.List.{length-take}
use Rattle.std.proofs.lemmas.List.Elements.{All-push}
use Rattle.std.specs.List.{All}
use Rattle.tp_opid.specs.declared.hash.Hash.{Hash}
use Rattle.tp_c.specs.Heads.{IsWhole, hash_bytes}
use Rattle.tp_c.proofs.NumberLaws.{hash_more}
use Rattle.tp_c.proofs.hashes.hashes_of.Goals as goal

pub loop-hash-preserved : goal.loop-hash-preserved
loop-hash-preserved c =
    let before = c.loop-hash.hashes.items in
    let rest = c.loop-hash.rest.now in
    let beyond = c.in-Some.beyond.now in
    let h : Hash = record { 0 = c.in-Some.hash.now } in
    let read = c.in-Some.ensures.cases in
    let long : length h.0 ≡ 32 = ap length read.0 ∙ omega (arith, length-take 32 rest, read.2) in
    let parts = hash_more c.args.bytes.now before rest h beyond c.loop-hash.invariant.parts read.0 read.1 in
    let made = sym c.in-Ok.ensures.items in
    record {
      parts = subst (λ (hs : List Hash). c.args.bytes.now ≡ hash_bytes hs ++ beyond) made parts;
      whole = subst (λ (hs : List Hash). All IsWhole hs) made (All-push IsWhole before h c.loop-hash.invariant.whole long);
    }
