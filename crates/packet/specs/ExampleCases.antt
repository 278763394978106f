-- The twelve cases that document 01 ('Measured against both sides') marks (P): one table under one claim. Assumes nothing.
use Rattle.std.specs.Prelude.{Option, Some, None, ℕ, ◌≡◌, refl, true, false, List, [], ◌∷◌, ◌++◌, take}
use Rattle.selectors.specs.Range.{range, contains, full, opaque, absent, port_size}
use Rattle.selectors.specs.declared.Direction.TheVariants.{Out}
use Rattle.packet.specs.Header.{two, four}
use Rattle.packet.specs.Read.{header_good, readable, carries_ports, shown, value, read_packet}
use Rattle.packet.specs.declared.Packet.{Packet}

-- A header of 20 bytes from 10.0.0.1 to 10.0.0.2, by its total length, its fragment offset and its protocol.
abbrev pub header : ℕ → ℕ → ℕ → List ℕ
header total offset protocol =
    69 ∷ 0 ∷ 0 ∷ total ∷ 0 ∷ 0 ∷ 0 ∷ offset ∷ 64 ∷ protocol ∷ 0 ∷ 0 ∷ 10 ∷ 0 ∷ 0 ∷ 1 ∷ 10 ∷ 0 ∷ 0 ∷ 2 ∷ []

-- The ports 4,660 and 80, as the first bytes of an upper part.
abbrev pub some_ports : List ℕ
some_ports = 18 ∷ 52 ∷ 0 ∷ 80 ∷ []

-- What such a packet shows going out: its total length, offset, protocol, local port and remote port.
abbrev pub shows : ℕ → ℕ → ℕ → ℕ → ℕ → Option Packet
shows total offset protocol local_port_of remote_port_of =
    Some (record {
      selectors =
          record {
            local = value 167772161;
            remote = value 167772162;
            protocol = value protocol;
            local_port = value local_port_of;
            remote_port = value remote_port_of;
          };
      offset = offset;
      more_fragments = false;
      upper = 20;
      end = total;
    })

pub record Cases : Type 0 where
  -- 'absent in `any`: yes.'
  pub absent_in_any : contains (full port_size) absent ≡ true
  -- 'in `0-65535`: no.'
  pub absent-in_numbers : contains (range 0 65535) absent ≡ false
  -- 'in `23-opaque`: yes.'
  pub absent_in-23-opaque : contains (range 23 absent) absent ≡ true
  -- '0 in `opaque`: no.'
  pub zero_in-opaque : contains opaque 0 ≡ false
  -- 'ICMP 3/1 is 769, in `768-1023`: yes.'
  pub icmp-3-1 : (read_packet Out (header 22 0 1 ++ 3 ∷ 1 ∷ []) ≡ shows 22 0 1 769 absent) × (contains (range 768 1023) 769 ≡ true)
  -- '4/0 is 1,024: no.'
  pub icmp-4-0 : (read_packet Out (header 22 0 1 ++ 4 ∷ 0 ∷ []) ≡ shows 22 0 1 1024 absent) × (contains (range 768 1023) 1024 ≡ false)
  -- 'TCP, 20-byte header, total length 23: ports absent.'
  pub tcp-23 : read_packet Out (header 23 0 6 ++ some_ports) ≡ shows 23 0 6 absent absent
  -- 'total length 24: ports seen.'
  pub tcp-24 : read_packet Out (header 24 0 6 ++ some_ports) ≡ shows 24 0 6 4660 80
  -- 'total length 24, offset 1: absent.'
  pub tcp-24-offset-1 : read_packet Out (header 24 1 6 ++ some_ports) ≡ shows 24 1 6 absent absent
  -- '19 bytes: 10.'
  pub bytes-19 : read_packet Out (take 19 (header 20 0 6)) ≡ None
  -- '20 bytes, header field 5, total length 20: readable.'
  pub bytes-20 : read_packet Out (header 20 0 6) ≡ shows 20 0 6 absent absent
  -- 'total length 21 in 20 bytes: 10.'
  pub bytes-20-total-21 : read_packet Out (header 21 0 6) ≡ None

pub cases : Cases
unfolding contains read_packet readable header_good shown carries_ports two four
cases =
    record {
      absent_in_any = refl;
      absent-in_numbers = refl;
      absent_in-23-opaque = refl;
      zero_in-opaque = refl;
      icmp-3-1 = (refl, refl);
      icmp-4-0 = (refl, refl);
      tcp-23 = refl;
      tcp-24 = refl;
      tcp-24-offset-1 = refl;
      bytes-19 = refl;
      bytes-20 = refl;
      bytes-20-total-21 = refl;
    }
