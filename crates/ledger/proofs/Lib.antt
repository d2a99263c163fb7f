mod Folds
mod Moves
mod Replicas
