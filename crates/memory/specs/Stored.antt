-- What a store answers.

-- that something took it, or the bus timeout
pub data Stored : Type 0 where
  Done : Stored
  Timeout : Stored
