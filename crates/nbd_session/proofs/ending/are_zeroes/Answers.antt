use Rattle.nbd_session.proofs.Common.{arith, ◌≡◌, ◌==◌, ℕ, List, ◌∙◌, rules, list_all, YieldsList-from_slice, all_from_yields_List, are_zeroes}
use Rattle.std.proofs.Common.{tests}
use Rattle.nbd_session.proofs.ending.are_zeroes.Goals as goal

are_zeroes-all : (bytes : List ℕ) → list_all (λ b. b == 0) bytes ≡ are_zeroes bytes
are_zeroes-all bytes = grind arith

pub returns : goal.returns
returns c =
    all_from_yields_List (λ b. b == 0) _ _ c.all.result c.all.ensures.ran (YieldsList-from_slice c.args.bytes.now cc) (λ x b q h. search (rules, tests))
    ∙ are_zeroes-all c.args.bytes.now
