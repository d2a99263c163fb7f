-- What a step adds, and to which series.
use Rattle.curves.specs.declared.obligations.Step.{Step}
use Rattle.curves.specs.Obligations.{sort_at, step_adds}
use Rattle.accounts.specs.declared.loading.Addition.{Addition}

abbrev pub addition_of : Step → Addition
addition_of s = record { sort = sort_at s.sort; value = step_adds s }
