-- How a call of the program's words ends (profile).
use Rattle.std.specs.Prelude.{◌≡◌, ℕ, ◌⊎◌, Bool, IsTrue, List, [], ◌∷◌, ◌++◌}
use Rattle.sdls_outside.specs.Moments.{Trace}
use Rattle.sdls_outside.specs.Output.{Sinks, SinksFront}
use Rattle.record_io.specs.declared.status.TheConstants.{SITE_FAULT}

-- a text and a line feed
abbrev pub line : List ℕ → List ℕ
line text = text ++ 10 ∷ []

-- The text that is due was put whole, and the status is the one that is due; or the site failed, the
-- status says so, and a front of the text was put. Nothing else was done.
abbrev pub Ends : Bool → Trace → Trace → Type 0 → List ℕ → ℕ → ℕ → Type 0
Ends told old new site_rose text due status =
    ((status ≡ due) × (IsTrue told → Sinks text old new))
    ⊎ ((status ≡ SITE_FAULT) × site_rose × (IsTrue told → SinksFront text old new))
