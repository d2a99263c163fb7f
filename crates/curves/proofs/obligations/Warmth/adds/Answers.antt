use Rattle.std.proofs.Common.{◌^◌, arith}
use Rattle.std.proofs.lemmas.Int.{ints}
use Rattle.curves.proofs.Products.{product_most}
use Rattle.curves.proofs.obligations.Warmth.adds.Goals as goal

pub returns-clause-bound : goal.returns-clause-bound
returns-clause-bound c =
    omega (arith, ints, product_most (10 ^ 11) (10 ^ 4) c.times.ensures.bound (omega (arith, ints)) (omega (arith, ints)))
