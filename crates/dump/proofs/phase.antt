pub mod PhaseWords
