-- What the search for a number tells of the records.
use Rattle.std.specs.Prelude.{◌≡◌, ℕ, ◌<◌, ◌≤◌, true, List, length, is_some, Some, None, slice_index_or, slice_set}
use Rattle.std.specs.List.{insert as opened, remove as closed}
use Rattle.registers.specs.Rows.{lookup, inserted, without, replaced}

module _ {R : Type 0} (key : R → ℕ) where
  -- The record with the number n stands at the place i.
  pub record Stands (n i : ℕ) (xs : List R) : Type 0 where
    pub within : i < length xs
    pub some : is_some (lookup key n xs) ≡ true
    pub found : (d : R) → lookup key n xs ≡ Some (slice_index_or xs i d)
    pub out : without key n xs ≡ closed xs i
    pub instead : (r : R) → key r ≡ n → replaced key r xs ≡ slice_set xs i r

  -- No record has the number n, and one that enters takes the place i.
  pub record Enters (n i : ℕ) (xs : List R) : Type 0 where
    pub within : i ≤ length xs
    pub none : lookup key n xs ≡ None
    pub out : without key n xs ≡ xs
    pub instead : (r : R) → key r ≡ n → replaced key r xs ≡ xs
    pub put_in : (r : R) → key r ≡ n → inserted key r xs ≡ opened xs i r
