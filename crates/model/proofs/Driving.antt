-- When two players go alike: in a state of theirs, after a call, and after a step. Assumes nothing.
use Rattle.std.proofs.Common.{◌≡◌}
use Rattle.model.specs.Sheet.{Did}
use Rattle.model.specs.Driving.{Driven, Turn}

pub record Paired {M₁ M₂ : Type 0} (R : M₁ → M₂ → Type 0) (s₁ : Driven M₁) (s₂ : Driven M₂) : Type 0 where
  pub counter : s₁.counter ≡ s₂.counter
  pub phase : s₁.phase ≡ s₂.phase
  pub player : R s₁.player s₂.player

pub record Level {M₁ M₂ : Type 0} (R : M₁ → M₂ → Type 0) (t₁ : Turn M₁) (t₂ : Turn M₂) : Type 0 where
  pub answer : t₁.answer ≡ t₂.answer
  pub after : Paired R t₁.after t₂.after

pub record Matches {M₁ M₂ : Type 0} (R : M₁ → M₂ → Type 0) (d₁ : Did M₁) (d₂ : Did M₂) : Type 0 where
  pub way : d₁.way ≡ d₂.way
  pub after : R d₁.after d₂.after
