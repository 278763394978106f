-- `ANY` of each type of ranges has all values of its field. Assumes nothing.
use Rattle.std.specs.Prelude.{◌≡◌, refl}
use Rattle.selectors.specs.Range.{full, address_size, protocol_size, port_size}
use Rattle.selectors.specs.Ranges.{address_range, protocol_range, port_range, address_of, protocol_of, port_of}
use Rattle.selectors.specs.Value.{number}

pub any-address : address_range (address_of (record { upper = 0; lower = 0 }) (record { upper = 0; lower = 4294967295 })) ≡ full address_size
unfolding number
any-address = refl

pub any-protocol : protocol_range (protocol_of (record { upper = 0; lower = 0 }) (record { upper = 0; lower = 255 })) ≡ full protocol_size
unfolding number
any-protocol = refl

pub any-port : port_range (port_of (record { upper = 0; lower = 0 }) (record { upper = 0; lower = 65536 })) ≡ full port_size
unfolding number
any-port = refl
