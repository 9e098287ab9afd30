-- A command is spelled by one to three words.
use Rattle.std.proofs.Common.{◌≡◌, ℕ, ◌≤◌, List, [], ◌∷◌, length, ap, arith}
use mathlib.Core.Logic.{inl, inr}
use Rattle.ocm_commands_files.specs.Words.{AreOf}
use Rattle.ocm_commands_files.specs.declared.words.Command.{Command}
use Rattle.ocm_commands_files.specs.declared.words.Command.TheVariants as commands

lengths : (command : Command) (words : List (List ℕ)) → AreOf command words → (1 ≤ length words) × (length words ≤ 3)
lengths commands.Replay words is = let e : length words ≡ 1 = ap length is in (omega arith, omega arith)
lengths commands.Audit words is = let e : length words ≡ 1 = ap length is in (omega arith, omega arith)
lengths commands.Logcheck words is = let e : length words ≡ 1 = ap length is in (omega arith, omega arith)
lengths commands.Compact words is = let e : length words ≡ 1 = ap length is in (omega arith, omega arith)
lengths (commands.Check kind) words is = let e : length words ≡ 2 = ap length is in (omega arith, omega arith)
lengths commands.Help words (inl is) = let e : length words ≡ 1 = ap length is in (omega arith, omega arith)
lengths commands.Help words (inr is) = let e : length words ≡ 1 = ap length is in (omega arith, omega arith)
lengths commands.ServeHelp words is = let e : length words ≡ 2 = ap length is in (omega arith, omega arith)
lengths commands.DavHelp words is = let e : length words ≡ 2 = ap length is in (omega arith, omega arith)
lengths commands.Version words (inl is) = let e : length words ≡ 1 = ap length is in (omega arith, omega arith)
lengths commands.Version words (inr is) = let e : length words ≡ 1 = ap length is in (omega arith, omega arith)
lengths (commands.Trace host) [] is = absurd is
lengths (commands.Trace host) (a ∷ []) is = absurd is
lengths (commands.Trace host) (a ∷ b ∷ []) is = (omega arith, omega arith)
lengths (commands.Trace host) (a ∷ b ∷ c ∷ rest) is = absurd is
lengths (commands.Drill number events) [] is = absurd is
lengths (commands.Drill number events) (a ∷ []) is = absurd is
lengths (commands.Drill number events) (a ∷ b ∷ []) is = absurd is
lengths (commands.Drill number events) (a ∷ b ∷ c ∷ []) is = (omega arith, omega arith)
lengths (commands.Drill number events) (a ∷ b ∷ c ∷ d ∷ rest) is = absurd is

pub at_least_one : (command : Command) (words : List (List ℕ)) → AreOf command words → 1 ≤ length words
at_least_one command words are = (lengths command words are).0

pub at_most_three : (command : Command) (words : List (List ℕ)) → AreOf command words → length words ≤ 3
at_most_three command words are = (lengths command words are).1
