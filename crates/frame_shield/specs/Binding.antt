-- What binds a frame to its association (profile).
use Rattle.std.specs.Prelude.{◌≡◌, ℕ, ◌+◌, ◌-◌, false, List, Option}
use Rattle.sdls_base.specs.declared.states.Suite.{Suite}
use Rattle.sdls_base.specs.KeyId.{class_of}
use Rattle.sdls_base.specs.Suite.{overhead_of, class_of_suite}
use Rattle.sdls_base.specs.ErrorControl.{error_control_length}
use Rattle.frame_shield.specs.declared.binding.Binding.{Binding}
use Rattle.sdls_base.specs.declared.link.AnyLayout.{AnyLayout}
use Rattle.sdls_base.specs.declared.link.AnyLayout.TheVariants.{Tc, Tm, Aos}
use Rattle.sdls_base.specs.declared.layout.FrameFault.{FrameFault}
use Rattle.frame_shield.specs.AnyFrame.{first_fault}
use Rattle.sdls_base.specs.Link.{IsLink, has_fecf}

-- the parts of a binding go together
pub record IsBinding (b : Binding) : Type 0 where
  pub class : class_of b.key ≡ class_of_suite b.suite
  pub link : IsLink b.link

-- how many octets a frame gains: security header and trailer, and the frame error control field
abbrev pub gain_of : Suite → AnyLayout → ℕ
gain_of suite layout = overhead_of suite + error_control_length (has_fecf layout)

-- the layout of clear frames: no frame error control field, and shorter by what the frame gains
abbrev pub clear_layout : Suite → AnyLayout → AnyLayout
clear_layout suite (Tc layout) = Tc (record layout { fecf = false; most = layout.most - gain_of suite (Tc layout) })
clear_layout suite (Tm layout) = Tm (record layout { fecf = false; length = layout.length - gain_of suite (Tm layout) })
clear_layout suite (Aos layout) = Aos (record layout {
  fecf = false;
  length = layout.length - gain_of suite
      (Aos layout);
})

-- the first check of a clear frame that fails
abbrev pub clear_fault : Binding → List ℕ → Option FrameFault
clear_fault b clear = first_fault (clear_layout b.suite b.link.layout) clear
