-- The words and their task.
use Rattle.std.proofs.Common.{◌≡◌, ℕ, ◌<◌, ◌≤◌, List, [], ◌∷◌, length, get_or, map, Result, Ok, Err, ap, refl, arith}
use Rattle.std.specs.Prelude.{codes, IfErr}
use Rattle.ocm_path.specs.Paths.{Segments}
use Rattle.ocm_commands_dav.specs.Words.{Asks, IsCause, IsOther, IsUsage, Spells, verb_word}
use Rattle.ocm_commands_dav.specs.declared.tasks.Task.{Task}
use Rattle.ocm_commands_dav.specs.declared.tasks.WordsFault.{WordsFault}
use Rattle.ocm_commands_dav.specs.declared.tasks.WordsFault.TheVariants as faults
use Rattle.ocm_commands_dav.specs.declared.verbs.Verb.{Verb}
use Rattle.ocm_commands_dav.specs.declared.verbs.Verb.TheVariants as verbs

-- the texts of five words
pub five : {A : Type 0} → (f : A → List ℕ) (xs : List A) (v w x y z : A) → 5 ≤ length xs → length xs < 6
    → v ≡ get_or xs 0 v → w ≡ get_or xs 1 w → x ≡ get_or xs 2 x → y ≡ get_or xs 3 y → z ≡ get_or xs 4 z
    → map f xs ≡ f v ∷ f w ∷ f x ∷ f y ∷ f z ∷ []
five f [] v w x y z low high e0 e1 e2 e3 e4 = absurd (omega arith)
five f (a ∷ []) v w x y z low high e0 e1 e2 e3 e4 = absurd (omega arith)
five f (a ∷ b ∷ []) v w x y z low high e0 e1 e2 e3 e4 = absurd (omega arith)
five f (a ∷ b ∷ c ∷ []) v w x y z low high e0 e1 e2 e3 e4 = absurd (omega arith)
five f (a ∷ b ∷ c ∷ d ∷ []) v w x y z low high e0 e1 e2 e3 e4 = absurd (omega arith)
five f (a ∷ b ∷ c ∷ d ∷ e ∷ []) v w x y z low high e0 e1 e2 e3 e4 =
    let g0 : v ≡ a = e0 in
    let g1 : w ≡ b = e1 in
    let g2 : x ≡ c = e2 in
    let g3 : y ≡ d = e3 in
    let g4 : z ≡ e = e4 in
    rw (g0, g1, g2, g3, g4) refl
five f (a ∷ b ∷ c ∷ d ∷ e ∷ h ∷ xs) v w x y z low high e0 e1 e2 e3 e4 = absurd (omega arith)

-- what the words ask for, their texts spell
pub spelled_of : (words : List (List ℕ)) (verb host secret path : List ℕ) → words ≡ codes "dav" ∷ verb ∷ host ∷ secret ∷ path ∷ [] → (task : Task) → Asks words task → Spells verb host secret path task
spelled_of words verb host secret path same task (v, h, s, p, is, (e, f, g, k)) =
    let ev : v ≡ verb = cc in
    let eh : h ≡ host = cc in
    let es : s ≡ secret = cc in
    let ep : p ≡ path = cc in
    (cc, rw eh at f, rw es at g, rw ep at k)

-- where one of the texts has a fault they spell no task
pub unspelled : (fault : WordsFault) (verb host secret path : List ℕ) → IsCause fault verb host secret path → (task : Task) → Spells verb host secret path task → ⊥
unspelled faults.Number verb host secret path cause task spells = cause
unspelled faults.Verb verb host secret path cause task spells = cause task.verb spells.0
unspelled faults.Host verb host secret path cause task spells = cause task.host spells.1
unspelled faults.Secret verb host secret path cause task spells = cause task.secret spells.2
unspelled faults.Path verb host secret path cause task spells = cause task.path spells.3
unspelled faults.NoMemory verb host secret path cause task spells = cause

-- nor do five words whose texts these are ask for one
pub unasked : (words : List (List ℕ)) (verb host secret path : List ℕ) → words ≡ codes "dav" ∷ verb ∷ host ∷ secret ∷ path ∷ [] → (r : Result Task WordsFault)
    → IfErr r (λ fault. IsUsage fault → IsCause fault verb host secret path) → IfErr r (λ fault. IsUsage fault → IsOther words)
unasked words verb host secret path same (Ok task) cause = tt
unasked words verb host secret path same (Err fault) cause = λ usage task asked. unspelled fault verb host secret path (cause usage) task (spelled_of words verb host secret path same task asked)

-- ---- words ask for one task at most

head : List ℕ → ℕ
head bytes = get_or bytes 0 0

verb_one : (a b : Verb) → verb_word a ≡ verb_word b → a ≡ b
unfolding head
verb_one verbs.Get verbs.Get e = refl
verb_one verbs.Put verbs.Put e = refl
verb_one verbs.Delete verbs.Delete e = refl
verb_one verbs.MakeCollection verbs.MakeCollection e = refl
verb_one verbs.List verbs.List e = refl
verb_one a b e = let first = ap head e in absurd (omega arith)

abbrev made : Verb → List ℕ → List ℕ → Segments → Task
made verb host secret path = record { verb = verb; host = host; secret = secret; path = path }

made_one : (v w : Verb) (h i s t : List ℕ) (p q : Segments) → v ≡ w → h ≡ i → s ≡ t → p ≡ q → made v h s p ≡ made w i t q
made_one v w h i s t p q e f g k = rw (e, f, g, k) refl

pub task_one : (words : List (List ℕ)) (a b : Task) → Asks words a → Asks words b → a ≡ b
task_one words a b (v, h, s, p, is, (ev, eh, es, ep)) (v', h', s', p', is', (ev', eh', es', ep')) =
    let same : a.verb ≡ b.verb = verb_one a.verb b.verb cc in
    let hosts : a.host ≡ b.host = cc in
    let secrets : a.secret ≡ b.secret = cc in
    let paths : a.path ≡ b.path = cc in
    made_one a.verb b.verb a.host b.host a.secret b.secret a.path b.path same hosts secrets paths
