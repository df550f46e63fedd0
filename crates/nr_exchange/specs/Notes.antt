-- What the view of a port notes. This project's own.
use Rattle.std.specs.Prelude.{ℕ, zero, suc, ◌+◌, ◌%◌, ◌^◌, Bool, true, false, List, [], ◌∷◌, replicate, nat_le, cond}
use Rattle.std.specs.Prelude.{slice_index_or, slice_set}
use Rattle.nr_exchange.specs.declared.note.Link.{Link}
use Rattle.nr_exchange.specs.declared.note.Room.{Room}
use Rattle.nr_exchange.specs.declared.note.Note.{Note}

abbrev pub no_link : Link
no_link = record { claimed = 0; seen = 0; marked = false; loads = 0; given = 0 }

abbrev pub no_room : Room
no_room = record { taken = 0; loads = 0 }

-- the mark of abandonment in a word
abbrev pub mark : Bool → ℕ
mark b = cond b (2 ^ 32) 0

module _ {P : Type 0} where
  -- a port that has done nothing
  abbrev pub fresh : P → ℕ → ℕ → ℕ → Note P
  fresh run shards shard made =
      record {
        run = run;
        shard = shard;
        made = made;
        number = 0;
        abandoned = false;
        out = 0;
        links = replicate shards no_link;
        rooms = replicate shards no_room;
      }

  abbrev pub link : Note P → ℕ → Link
  link v s = slice_index_or v.links s no_link

  abbrev pub room : Note P → ℕ → Room
  room v d = slice_index_or v.rooms d no_room

  -- one port more was made
  abbrev pub one_made : Note P → Note P
  one_made v =
      record {
        run = v.run;
        shard = v.shard;
        made = v.made + 1;
        number = v.number;
        abandoned = v.abandoned;
        out = v.out;
        links = v.links;
        rooms = v.rooms;
      }

  abbrev pub with_link : Note P → ℕ → Link → Note P
  with_link v s l =
      record {
        run = v.run;
        shard = v.shard;
        made = v.made;
        number = v.number;
        abandoned = v.abandoned;
        out = v.out;
        links = slice_set v.links s l;
        rooms = v.rooms;
      }

  -- the published word of s was loaded, and was n; the list of height c is the last that was claimed
  abbrev pub loaded : Note P → ℕ → ℕ → ℕ → Note P
  loaded v s n c =
      with_link v s (record {
        claimed = c;
        seen = n % 2 ^ 32;
        marked = nat_le (2 ^ 32) n;
        loads = (link v s).loads + 1;
        given = (link v s).given;
      })

  -- a load that claims nothing
  abbrev pub looked : Note P → ℕ → ℕ → Note P
  looked v s n = loaded v s n (link v s).claimed

  -- a load that claims the list of height h
  abbrev pub claims : Note P → ℕ → ℕ → ℕ → Note P
  claims v s n h = loaded v s n h

  -- the place of a list of s is given back
  abbrev pub gave_back : Note P → ℕ → Note P
  gave_back v s =
      with_link v s (record {
        claimed = (link v s).claimed;
        seen = (link v s).seen;
        marked = (link v s).marked;
        loads = (link v s).loads;
        given = (link v s).given + 1;
      })

  -- the places for the next list are out as far as k, and so much is known of the destinations
  abbrev pub with_rooms : Note P → ℕ → List Room → Note P
  with_rooms v k rs =
      record {
        run = v.run;
        shard = v.shard;
        made = v.made;
        number = v.number;
        abandoned = v.abandoned;
        out = k;
        links = v.links;
        rooms = rs;
      }

  -- the taken word of the link to d was loaded, and was n
  abbrev pub asked : Note P → ℕ → ℕ → Note P
  asked v d n = with_rooms v v.out (slice_set v.rooms d (record { taken = n; loads = (room v d).loads + 1 }))

  -- the same, and the place for the next list is taken out
  abbrev pub held : Note P → ℕ → ℕ → Note P
  held v d n = with_rooms v (d + 1) (slice_set v.rooms d (record { taken = n; loads = (room v d).loads + 1 }))

  -- the next height is passed, which has no chunk
  abbrev pub passed : Note P → Note P
  passed v =
      record {
        run = v.run;
        shard = v.shard;
        made = v.made;
        number = v.number + 1;
        abandoned = v.abandoned;
        out = v.out;
        links = v.links;
        rooms = v.rooms;
      }

  -- the next height is published
  abbrev pub raised : Note P → Note P
  raised v =
      record {
        run = v.run;
        shard = v.shard;
        made = v.made;
        number = v.number + 1;
        abandoned = v.abandoned;
        out = 0;
        links = v.links;
        rooms = v.rooms;
      }

  -- the shard has abandoned the run
  abbrev pub gives_up : Note P → Note P
  gives_up v =
      record {
        run = v.run;
        shard = v.shard;
        made = v.made;
        number = v.number;
        abandoned = true;
        out = v.out;
        links = v.links;
        rooms = v.rooms;
      }

  -- a field of the view of a port, and d where it is not made yet
  abbrev pub noted : {A : Type 0} → (Note P → A) → A → List (Note P) → ℕ → A
  noted f d [] s = d
  noted f d (v ∷ vs) zero = f v
  noted f d (v ∷ vs) (suc s) = noted f d vs s

  abbrev pub number : List (Note P) → ℕ → ℕ
  number views s = noted (λ v. v.number) 0 views s

  abbrev pub abandoned : List (Note P) → ℕ → Bool
  abandoned views s = noted (λ v. v.abandoned) false views s

  abbrev pub out : List (Note P) → ℕ → ℕ
  out views s = noted (λ v. v.out) 0 views s

  -- what port d knows of s
  abbrev pub link_of : List (Note P) → ℕ → ℕ → Link
  link_of views d s = noted (λ v. link v s) no_link views d

  -- what port s knows of d
  abbrev pub room_of : List (Note P) → ℕ → ℕ → Room
  room_of views s d = noted (λ v. room v d) no_room views s
