use Rattle.std.specs.Prelude.{ℕ, Bool, List}

-- one mapped page: whether it is text, and its bytes
pub record PageImage : Type 0 where
  pub text : Bool
  pub bytes : List ℕ
