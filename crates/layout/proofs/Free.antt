-- Kinds whose range is any number, and kinds that share a range.
-- Assumes nothing.
use Prim.Native.Nat.{ℕ}
use mathlib.Core.Path.{◌≡◌, refl}
use mathlib.Core.Bool.{true}
use Rattle.layout.specs.Kind.{Text, channel, last_number, first_number, bid_number, offer_number, order_price, trade_price, previous_close, trade_count, order_count, entry_type, level, group_count, stock_number, switch_type, text, ranged}

module _ (v : ℕ) where
  pub free-channel : ranged channel v ≡ true
  unfolding ranged
  free-channel = refl

  pub free-entry-type : ranged entry_type v ≡ true
  unfolding ranged
  free-entry-type = refl

  pub free-level : ranged level v ≡ true
  unfolding ranged
  free-level = refl

  pub free-group-count : ranged group_count v ≡ true
  unfolding ranged
  free-group-count = refl

  pub free_stock_number : ranged stock_number v ≡ true
  unfolding ranged
  free_stock_number = refl

  pub free_switch_type : ranged switch_type v ≡ true
  unfolding ranged
  free_switch_type = refl

  pub free-text : (t : Text) → ranged (text t) v ≡ true
  unfolding ranged
  free-text t = refl

  -- at least 0
  pub first_number_as : ranged first_number v ≡ ranged last_number v
  unfolding ranged
  first_number_as = refl

  pub bid_number_as : ranged bid_number v ≡ ranged last_number v
  unfolding ranged
  bid_number_as = refl

  pub offer_number_as : ranged offer_number v ≡ ranged last_number v
  unfolding ranged
  offer_number_as = refl

  pub trade_count_as : ranged trade_count v ≡ ranged last_number v
  unfolding ranged
  trade_count_as = refl

  pub order_count_as : ranged order_count v ≡ ranged last_number v
  unfolding ranged
  order_count_as = refl

  -- around 0, to the limit of an order's price
  pub trade_price_as : ranged trade_price v ≡ ranged order_price v
  unfolding ranged
  trade_price_as = refl

  pub previous_close_as : ranged previous_close v ≡ ranged order_price v
  unfolding ranged
  previous_close_as = refl
