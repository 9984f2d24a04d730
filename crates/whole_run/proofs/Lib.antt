-- Whole: pieces one after the other, what stands behind them, and what a header adds.
mod Whole
