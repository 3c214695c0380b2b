-- The Rust's defaults: P2 50, P2* 5000, no overall timeout, server timing on, strict on. The wide setting, the limit of notices and addresses, which it does not have, are off.
use Rattle.std.specs.Prelude.{None}
use Rattle.std.specs.Prelude.{true, false}
use Rattle.exchange.specs.declared.types.Form.TheVariants.{Plain}
use Rattle.uds.specs.declared.config.UDSConfig.{UDSConfig}

abbrev pub defaults : UDSConfig
defaults = record {
  p2_timeout = 50;
  p2_star_timeout = 5000;
  request_timeout = None;
  use_server_timing = true;
  strict = true;
  wide = false;
  notice_limit = None;
  channel = record { form = Plain; listens = 0 };
}
