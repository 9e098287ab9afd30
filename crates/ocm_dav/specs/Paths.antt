-- What is told of a path's fault.
use Rattle.std.specs.Prelude.{ℕ, List, codes}
use Rattle.ocm_path.specs.declared.faults.PathFault.{PathFault}
use Rattle.ocm_path.specs.declared.faults.PathFault.TheVariants.{BadEscape, NotText, EmptySegment, Dots, BadChar, TooLong, NoMemory}

-- the words for a fault; no reading of a path gives the last one
abbrev pub path_message : PathFault → List ℕ
path_message BadEscape = codes "bad escape"
path_message NotText = codes "not text"
path_message EmptySegment = codes "empty segment"
path_message Dots = codes "dots"
path_message BadChar = codes "bad character"
path_message TooLong = codes "path too long"
path_message NoMemory = codes "no memory"
