use Rattle.std.proofs.Common.{arith, rules, ◌≡◌, false, true}
use Rattle.tp_web.proofs.Admitting.{admitted, refused}
use Rattle.tp_web.specs.Greetings.{page_code}
use Rattle.tp_web.proofs.greeting.admits.Goals as goal

pub returns-then-not-is_equal-clause-admitted : goal.returns-then-not-is_equal-clause-admitted
returns-then-not-is_equal-clause-admitted c =
    let fails : c.is_equal.result ≡ false = first_of (search rules, grind arith) in
    refused c.is_equal.result c.args.claim.now.code c.in_ok-wanted.wanted (page_code c.args.key.now c.args.ours.now c.args.claim.now.challenge)
    c.is_equal.ensures c.in_ok-wanted.ensures fails

pub returns-clause-admitted : goal.returns-clause-admitted
returns-clause-admitted c =
    let holds : c.is_equal.result ≡ true = first_of (search rules, grind arith) in
    admitted c.is_equal.result c.args.claim.now.code c.in_ok-wanted.wanted (page_code c.args.key.now c.args.ours.now c.args.claim.now.challenge)
    c.is_equal.ensures c.in_ok-wanted.ensures holds
