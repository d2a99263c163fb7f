-- The marked figures of the rules, as one list.
use Rattle.std.specs.Prelude.{◌≡◌, [], ◌∷◌, pos, negsuc, Ok}
use Rattle.curves.specs.declared.obligations.Step.{Step}
use Rattle.curves.specs.Coefficients.{kj_of, kh_of}
use Rattle.curves.specs.Levels.{level_of}
use Rattle.curves.specs.Obligations.{sum_of_steps, obligation_of}

-- Two half-hours of profiled sites, at -1.00 and 0.50 degrees against -2.50.
abbrev pub cold_half_hour : Step
cold_half_hour = record { sort = 1; metered = 50000; shed = 1000; gradient = pos 400; coefficient = 1100; real = negsuc 99; extreme = negsuc 249 }

abbrev pub mild_half_hour : Step
mild_half_hour = record { sort = 1; metered = 48000; shed = 0; gradient = pos 400; coefficient = 1100; real = pos 50; extreme = negsuc 249 }

-- Two half-hours of losses, at 1.00 and -4.00 degrees against -4.00.
abbrev pub mild_losses : Step
mild_losses = record { sort = 2; metered = 6000; shed = 0; gradient = negsuc 19; coefficient = 1000; real = pos 100; extreme = negsuc 399 }

abbrev pub cold_losses : Step
cold_losses = record { sort = 2; metered = 6000; shed = 0; gradient = negsuc 19; coefficient = 1000; real = negsuc 399; extreme = negsuc 399 }

-- Each figure that the rules mark is what the definitions give.
pub record MarkedFigures : Type 0 where
  pub hours_2_2 : kj_of 22 ≡ 46
  pub hours_2_3 : kj_of 23 ≡ 53
  pub days_0_10 : kh_of 10 ≡ 4
  pub days_1_15 : kh_of 115 ≡ 48
  pub days_1_16 : kh_of 116 ≡ 51
  pub by_hours_and_days : level_of 1 (record { power = 37500; hours = 23; days = 116 }) ≡ Ok 101
  pub solar_1020_kw : level_of 4 (record { power = 1020; hours = 0; days = 0 }) ≡ Ok 2
  pub solar_1040_kw : level_of 4 (record { power = 1040; hours = 0; days = 0 }) ≡ Ok 3
  pub profiled_sites : obligation_of 2 930 (sum_of_steps (cold_half_hour ∷ mild_half_hour ∷ [])) ≡ Ok 469
  pub losses_alone : obligation_of 2 930 (sum_of_steps (mild_losses ∷ cold_losses ∷ [])) ≡ Ok 56
