-- What read after read does to a reading. Assumes nothing.
use Rattle.std.proofs.Common.{◌≡◌, ℕ, ◌+◌, ◌^◌, ◌<◌, List, [], ◌++◌, length, refl, subst, append_assoc, arith, length-append}
use Rattle.std.specs.Io.KnownBytes.{Consumes}
use Rattle.std.specs.declared.option.Option.{Option}
use Rattle.std.specs.Prelude.{None, Some}
use Rattle.text_parse.specs.declared.Parse.{Parse}
use Rattle.text_parse.specs.Reading.{Reads}
use Rattle.text_io.specs.Reader.{ReadsOn}

-- of the bytes that the reader had left when the reading began it took a part, and p has read that part
pub record HasRead (old new : Option (List ℕ)) (p : Parse) : Type 0 where
  pub part : List ℕ
  pub took : Consumes old new part
  pub reads : length part < 2 ^ 64 → Reads p part

-- nothing is read yet
pub nothing_read : (known : Option (List ℕ)) {p : Parse} → Reads p [] → HasRead known known p
nothing_read None h = record { part = []; took = tt; reads = λ _. h }
nothing_read (Some xs) h = record { part = []; took = refl; reads = λ _. h }

-- two parts, one after the other
took_both : (old mid new : Option (List ℕ)) (a b : List ℕ) → Consumes old mid a → Consumes mid new b → Consumes old new (a ++ b)
took_both None mid new a b h k = tt
took_both (Some xs) None new a b h k = absurd h
took_both (Some xs) (Some ys) None a b h k = absurd k
took_both (Some xs) (Some ys) (Some zs) a b h k = rw (append_assoc, ← k) h

-- one more read, which goes on
pub read_more : {old mid new : Option (List ℕ)} {p q : Parse} {r : Option Parse} → HasRead old mid p → ReadsOn mid new p r → r ≡ Some q → HasRead old new q
read_more {old = old} {mid = mid} {new = new} {p = p} h on is =
    let t = subst (ReadsOn mid new p) is on in record {
      part = h.part ++ t.part;
      took = took_both old mid new h.part t.part h.took t.took;
      reads = λ small. let sum : length h.part + length t.part < 2 ^ 64 = rw length-append at small in t.fed h.part sum (h.reads (omega arith));
    }
