use Rattle.std.specs.Prelude.{List, ◌++◌, Option, option_map}

-- what was read of the elements so far, and then what is read of the rest
abbrev pub with_front : {A : Type 0} → List A → Option (List A) → Option (List A)
with_front made rest = option_map (λ more. made ++ more) rest
